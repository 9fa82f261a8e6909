-- A finite map from names to values, in the order in which the names came.
use Rattle.std.specs.Prelude.{ℕ, ◌==◌, ◌||◌, Bool, false, List, [], ◌∷◌, if◌then◌else◌}
use Rattle.cdi_base.specs.declared.value.Value.{Value}
use Rattle.cdi_base.specs.declared.value.Value.TheVariants.{Null}

-- whether a field is there
abbrev pub has : List (ℕ × Value) → ℕ → Bool
has [] name = false
has (f ∷ fs) name = (name == f.0) || has fs name

-- the value of a field, or null
abbrev pub get : List (ℕ × Value) → ℕ → Value
get [] name = Null
get (f ∷ fs) name = if name == f.0 then f.1 else get fs name

-- the fields with a value at a name: a name that is there keeps its place
abbrev pub put : List (ℕ × Value) → ℕ → Value → List (ℕ × Value)
put [] name value = (name, value) ∷ []
put (f ∷ fs) name value = if name == f.0 then (f.0, value) ∷ fs else f ∷ put fs name value

-- the same, where a name that isn't there changes nothing
abbrev pub set : List (ℕ × Value) → ℕ → Value → List (ℕ × Value)
set [] name value = []
set (f ∷ fs) name value = if name == f.0 then (f.0, value) ∷ fs else f ∷ set fs name value
