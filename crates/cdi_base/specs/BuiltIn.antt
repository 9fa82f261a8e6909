-- The built-in names, and the table that each deployment begins with.
use Rattle.std.specs.Prelude.{ℕ, List, [], ◌∷◌, codes, map}
use Rattle.cdi_base.specs.declared.built_in.BuiltIn.{BuiltIn}
use Rattle.cdi_base.specs.declared.built_in.BuiltIn.TheVariants as names

abbrev pub text_of : BuiltIn → List ℕ
text_of names.Object = codes "Object"
text_of names.Startup = codes "Startup"
text_of names.Shutdown = codes "Shutdown"
text_of names.Any = codes "Any"
text_of names.Default = codes "Default"
text_of names.Named = codes "Named"
text_of names.Initialized = codes "Initialized"
text_of names.BeforeDestroyed = codes "BeforeDestroyed"
text_of names.Destroyed = codes "Destroyed"
text_of names.Value = codes "value"
text_of names.ContextNotActiveException = codes "ContextNotActiveException"
text_of names.CreationException = codes "CreationException"
text_of names.IllegalProductException = codes "IllegalProductException"
text_of names.IllegalStateException = codes "IllegalStateException"
text_of names.IllegalArgumentException = codes "IllegalArgumentException"
text_of names.NullPointerException = codes "NullPointerException"
text_of names.ObserverException = codes "ObserverException"
text_of names.UnsatisfiedResolutionException = codes "UnsatisfiedResolutionException"
text_of names.AmbiguousResolutionException = codes "AmbiguousResolutionException"

abbrev pub number_of : BuiltIn → ℕ
number_of names.Object = 0
number_of names.Startup = 1
number_of names.Shutdown = 2
number_of names.Any = 3
number_of names.Default = 4
number_of names.Named = 5
number_of names.Initialized = 6
number_of names.BeforeDestroyed = 7
number_of names.Destroyed = 8
number_of names.Value = 9
number_of names.ContextNotActiveException = 10
number_of names.CreationException = 11
number_of names.IllegalProductException = 12
number_of names.IllegalStateException = 13
number_of names.IllegalArgumentException = 14
number_of names.NullPointerException = 15
number_of names.ObserverException = 16
number_of names.UnsatisfiedResolutionException = 17
number_of names.AmbiguousResolutionException = 18

abbrev pub all_built_in : List BuiltIn
all_built_in =
    names.Object ∷ names.Startup ∷ names.Shutdown ∷ names.Any ∷ names.Default ∷ names.Named
    ∷ names.Initialized ∷ names.BeforeDestroyed ∷ names.Destroyed
    ∷ names.Value ∷ names.ContextNotActiveException ∷ names.CreationException
    ∷ names.IllegalProductException ∷ names.IllegalStateException
    ∷ names.IllegalArgumentException ∷ names.NullPointerException ∷ names.ObserverException
    ∷ names.UnsatisfiedResolutionException
    ∷ names.AmbiguousResolutionException ∷ []

-- the table that each deployment begins with
unfoldable pub built_in_names : List (List ℕ)
built_in_names = map text_of all_built_in
