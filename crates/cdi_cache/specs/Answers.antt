-- What is remembered.
use Rattle.std.specs.Prelude.{ℕ, ◌≡◌, List, Contains}
use Rattle.cdi_beans.specs.declared.bean.Bean.{Bean}
use Rattle.cdi_resolve.specs.Resolution.{resolution}
use Rattle.cdi_cache.specs.declared.answer.Answer.{Answer}

-- an answer is what resolution among these beans tells
abbrev pub IsTold : List (ℕ × Bean) → Answer → Type 0
IsTold beans a = a.told ≡ resolution a.ty a.qualifiers beans

abbrev pub AreTold : List (ℕ × Bean) → List (ℕ × Answer) → Type 0
AreTold beans entries = (hash : ℕ) (a : Answer) → Contains entries (hash, a) → IsTold beans a
