-- The place of a superclass.
use Rattle.std.specs.Prelude.{ℕ, Option, option_and_then}
use Rattle.cdi_types.specs.declared.declaration.TypeDeclaration.{TypeDeclaration}

-- of the one that a declaration names; place tells the places of names
abbrev pub place_above : (ℕ → Option ℕ) → TypeDeclaration → Option ℕ
place_above place declared = option_and_then place declared.superclass
