-- A class with its superclasses, the topmost first.
use Rattle.std.specs.Prelude.{ℕ, ◌≡◌, ◌≢◌, ◌==◌, ◌++◌, List, [], ◌∷◌, Option, Some, None, option_and_then}
use Rattle.std.specs.List.{find}
use Rattle.cdi_types.specs.declared.declaration.TypeDeclaration.{TypeDeclaration}
use Rattle.cdi_types.specs.Subtype.{object}

-- the class that a class extends; where a name is declared twice, the first one counts
abbrev pub superclass_of : List TypeDeclaration → ℕ → Option ℕ
superclass_of types name = option_and_then (λ d. d.superclass) (find (λ d. d.name == name) types)

-- superclass first, without Object
pub data IsLineage (types : List TypeDeclaration) : ℕ → List ℕ → Type 0 where
  above_all : IsLineage types object []
  top : {a : ℕ} → a ≢ object → superclass_of types a ≡ None → IsLineage types a (a ∷ [])
  next : {a b : ℕ} {names : List ℕ} → a ≢ object → superclass_of types a ≡ Some b
      → IsLineage types b names → IsLineage types a (names ++ a ∷ [])

-- b is a superclass of a, the direct one or one above it
pub data IsSuperclass (types : List TypeDeclaration) : ℕ → ℕ → Type 0 where
  directly : {a b : ℕ} → superclass_of types a ≡ Some b → IsSuperclass types b a
  further : {a b c : ℕ} → superclass_of types a ≡ Some b → IsSuperclass types c b
      → IsSuperclass types c a
