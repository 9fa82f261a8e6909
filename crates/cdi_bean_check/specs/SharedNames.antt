-- Names of fields that the classes of a deployment declare more than once.
use Rattle.std.specs.Prelude.{ℕ, ◌≡◌, ◌==◌, ◌++◌, List, map, nat_eq, nat_lt, count_by}
use Rattle.std.specs.HashSet.{HashSet, contains}
use Rattle.std.specs.List.{flat_map}
use Rattle.cdi_deployment.specs.declared.deployment.Class.{Class}

-- the names of the fields of a class, injected or not
abbrev pub fields_in : Class → List ℕ
fields_in c = map (λ f. f.name) c.fields ++ map (λ f. f.name) c.inject

-- how often a name stands among these
abbrev pub occurrences : List ℕ → ℕ → ℕ
occurrences names name = count_by (λ n. n == name) names

-- a set has the names that stand among these more than once
abbrev pub HasRepeated : {S : Type 0} → List ℕ → HashSet ℕ S → Type 0
HasRepeated names set =
    (name : ℕ) → contains nat_eq set name ≡ nat_lt 1 (occurrences names name)

-- a set has all names that stand among these
abbrev pub HasSeen : {S : Type 0} → List ℕ → HashSet ℕ S → Type 0
HasSeen names set =
    (name : ℕ) → contains nat_eq set name ≡ nat_lt 0 (occurrences names name)

-- a set has the names of fields that classes declare more than once
abbrev pub HasShared : {S : Type 0} → List Class → HashSet ℕ S → Type 0
HasShared classes set = HasRepeated (flat_map fields_in classes) set
