-- What a call tells of a source or of a sink.
use Rattle.std.specs.Prelude.{◌≡◌, ℕ, Bool, true, false, List, ◌++◌, Option, Result, Ok, Err}
use Rattle.std.specs.Io.KnownBytes.{Appends}

-- A call that fails tells that the end has failed, and one that doesn't, that it had not and has not.
abbrev pub Tells : {T E : Type 0} → Result T E → Bool → Bool → Type 0
Tells (Ok _) failed fails = (failed ≡ false) × (fails ≡ false)
Tells (Err _) failed fails = fails ≡ true

-- known bytes grow by all that was to be written, or by a front part of it where that failed
abbrev pub WritesAll : {T E : Type 0} → Option (List ℕ) → Option (List ℕ) → Result T E → List ℕ
    → Type 0
WritesAll old new (Ok _) bytes = Appends old new bytes
WritesAll old new (Err _) bytes =
    (part : List ℕ) × (rest : List ℕ) × (part ++ rest ≡ bytes) × Appends old new part
