-- The first list of a deployment that is longer than its limit.
use Rattle.std.specs.Prelude.{◌≡◌, ◌+◌, [], ◌∷◌, codes, length, Option, Some, None, Result, Ok, Err}
use Rattle.cdi_base.specs.declared.or_memory.OrMemory.{OrMemory}
use Rattle.cdi_base.specs.declared.or_memory.OrMemory.TheVariants as errors
use Rattle.cdi_deployment.specs.declared.deployment.Deployment.{Deployment}
use Rattle.cdi_prepare.specs.ItemLists.{annotation_list, class_list, first_in, first_of, interceptor_list, interface_list, long_list}
use Rattle.cdi_prepare.specs.declared.hint.Mistake.{Mistake}

-- the lists of the deployment itself, 1,024 items in each: interfaces and interceptors count with the classes
abbrev pub list_of_deployment : Deployment → Option Mistake
list_of_deployment d =
    first_of (long_list [] (codes "classes")
    (length d.interfaces + length d.classes + length d.interceptors) 1024
    ∷ long_list [] (codes "scripts") (length d.scripts) 1024
    ∷ long_list [] (codes "qualifiers") (length d.qualifiers) 1024
    ∷ long_list [] (codes "bindings") (length d.bindings) 1024
    ∷ long_list [] (codes "exceptions") (length d.exceptions) 1024
    ∷ long_list [] (codes "selected") (length d.selected) 1024
    ∷ long_list [] (codes "order") (length d.order) 1024 ∷ [])

-- the lists of its classes, and then of its other items
abbrev pub list_of_items : Deployment → Option Mistake
list_of_items d =
    first_of (first_in class_list [] (codes "classes") 0 d.classes
    ∷ first_in interface_list [] (codes "interfaces") 0 d.interfaces
    ∷ first_in annotation_list [] (codes "qualifiers") 0 d.qualifiers
    ∷ first_in annotation_list [] (codes "bindings") 0 d.bindings
    ∷ first_in interceptor_list [] (codes "interceptors") 0 d.interceptors ∷ [])

abbrev pub first_long_list : Deployment → Option Mistake
first_long_list d = first_of (list_of_deployment d ∷ list_of_items d ∷ [])

-- the answer is the mistake, or none where there is none, unless memory ran out
abbrev pub Tells : Option Mistake → Result (Unit {0}) (OrMemory Mistake) → Type 0
Tells found (Ok _) = found ≡ None
Tells found (Err (errors.Fault mistake)) = found ≡ Some mistake
Tells found (Err errors.Memory) = Unit {0}
