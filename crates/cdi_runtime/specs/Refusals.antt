-- What is refused, part by part.
use Rattle.std.specs.Prelude.{ℕ, List, [], ◌∷◌, length, not, Option, Some, None, if◌then◌else◌}
use Rattle.cdi_base.specs.declared.reply.Refusal.{Refusal}
use Rattle.cdi_base.specs.declared.reply.Refusal.TheVariants as refusals
use Rattle.cdi_base.specs.declared.uses.Use.{Use}
use Rattle.cdi_contexts.specs.Contexts.{Contexts}
use Rattle.cdi_contexts.specs.Refusals.{first_that_holds}
use Rattle.cdi_host.specs.Asked.{method_at, product_of}
use Rattle.cdi_machine.specs.Tables.{Tables, Method, Product, Resolution, One}
use Rattle.cdi_machine.specs.Commands.{Command}
use Rattle.cdi_machine.specs.Container.{no_method, refused_by_contexts, wrong_count}
use Rattle.cdi_steps.specs.Known.{asked_by}
use Rattle.cdi_steps.specs.declared.task.BeanPurpose.{BeanPurpose}
use Rattle.cdi_steps.specs.declared.task.BeanPurpose.TheVariants.{Call, Read}
use Rattle.cdi_steps.specs.declared.task.BeanUse.{BeanUse}

-- a call of a method with so many values
abbrev pub method_refusal : Option Method → ℕ → Option Refusal
method_refusal m count =
    first_that_holds
    ((no_method m, refusals.NoMethod) ∷ (wrong_count m count, refusals.WrongCount) ∷ [])

-- a read: what isn't a product has no value
abbrev pub read_refusal : Option Product → Option Refusal
read_refusal None = Some refusals.NoMethod
read_refusal (Some p) = None

-- what is done with a bean
abbrev pub bean_refusal : Tables → ℕ → BeanPurpose → Option Refusal
bean_refusal t b (Call method args) = method_refusal (method_at t b method) (length args)
bean_refusal t b Read = read_refusal (product_of (t.bean b))

-- what is done with what was resolved
abbrev pub resolved_refusal : Tables → Resolution → BeanPurpose → Option Refusal
resolved_refusal t (One b) purpose = bean_refusal t b purpose
resolved_refusal t _ purpose = None

-- what a use resolves to, if all its names are known
abbrev pub known_resolution : Tables → BeanUse → Option Resolution
known_resolution t used =
    if t.is_known (asked_by used) then Some (t.resolve (asked_by used)) else None

-- the use of what a type and qualifiers resolve to
abbrev pub use_refusal : Tables → BeanUse → Option Refusal
use_refusal t used =
    if t.is_known (asked_by used)
    then resolved_refusal t (t.resolve (asked_by used)) used.purpose
    else Some refusals.UnknownName

-- an event of a class with qualifiers
abbrev pub event_refusal : Tables → ℕ → List Use → Option Refusal
event_refusal t class qualifiers =
    first_that_holds ((not (t.is_event class qualifiers), refusals.UnknownName) ∷ [])

-- what the contexts refuse first
abbrev pub contexts_refusal : Contexts → Command → Option Refusal
contexts_refusal contexts c = first_that_holds (refused_by_contexts contexts c)

-- the tables are asked behind that
abbrev pub otherwise : Option Refusal → Option Refusal → Option Refusal
otherwise None behind = behind
otherwise (Some refusal) behind = Some refusal
