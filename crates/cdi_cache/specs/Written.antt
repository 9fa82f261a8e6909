-- Questions as they were written.
use Rattle.std.specs.Prelude.{◌≡◌}
use Rattle.cdi_cache.specs.declared.written.WrittenQuestion.{WrittenQuestion}

-- two of them are the same if their types are, and their uses are equal as they were written
pub record IsSame (a b : WrittenQuestion) : Type 0 where
  pub ty : a.ty ≡ b.ty
  pub uses : a.uses.now ≡ b.uses.now
