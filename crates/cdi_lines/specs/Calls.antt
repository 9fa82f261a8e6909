-- The calls of a reader or of a writer, and what is told of them.
use Rattle.std.specs.Prelude.{◌≡◌, ◌≢◌, ℕ, ◌⊎◌, Bool, true, false, List, [], ◌∷◌, drop, Option, Some, None, Result, Ok, Err, IsErr, is_ok}
use Rattle.cdi_lines.specs.declared.input.Input.{Input}
use Rattle.cdi_lines.specs.declared.output.Output.{Output}
use Rattle.cdi_lines.specs.declared.sink.WriteFailed.{WriteFailed}
use Rattle.cdi_lines.specs.declared.source.ReadFailed.{ReadFailed}

-- what a call gave, unless it failed
abbrev pub given : {T E : Type 0} → Result T E → Option T
given (Ok value) = Some value
given (Err _) = None

-- A reader that has failed isn't asked again. Another is asked once, for the whole buffer, and what it gives is told.
pub record ReadsOnce {R : Type 0} (reads : R → List ℕ → Option ℕ → R → List ℕ → Type 0)
    (old : Input R) (buf : List ℕ) (result : Result ℕ ReadFailed) (new : Input R)
    (buf_after : List ℕ) : Type 0 where
  pub again : old.has_failed ≡ true → IsErr result × (new ≡ old) × (buf_after ≡ buf)
  pub asked : old.has_failed ≡ false → reads old.reader buf (given result) new.reader buf_after

-- A writer is asked to write bytes until all are taken, after so many of them each time the others. Where it fails, or
-- takes nothing while some are left, it isn't asked again, and that is told.
abbrev pub WritesIn : {W : Type 0} → (W → List ℕ → Option ℕ → W → Type 0) → List ℕ → W → List ℕ
    → Result (Unit {0}) WriteFailed → W → Type 0
WritesIn writes [] old bytes (Ok _) new = (bytes ≡ []) × (new ≡ old)
WritesIn writes [] old bytes (Err _) new =
    (bytes ≢ []) × (writes old bytes (Some 0) new ⊎ writes old bytes None new)
WritesIn {W} writes (count ∷ counts) old bytes result new =
    (mid : W) × (bytes ≢ []) × (count ≢ 0) × writes old bytes (Some count) mid
    × WritesIn writes counts mid (drop count bytes) result new

-- the same, however often it is asked
abbrev pub WritesOut : {W : Type 0} → (W → List ℕ → Option ℕ → W → Type 0) → W → List ℕ
    → Result (Unit {0}) WriteFailed → W → Type 0
WritesOut writes old bytes result new =
    (counts : List ℕ) × WritesIn writes counts old bytes result new

-- A writer that has failed isn't asked again. Another is asked so, and isn't flushed then.
pub record WritesOnce {W : Type 0} (writes : W → List ℕ → Option ℕ → W → Type 0)
    (old : Output W) (bytes : List ℕ) (result : Result (Unit {0}) WriteFailed) (new : Output W)
    : Type 0 where
  pub again : old.has_failed ≡ true → IsErr result × (new ≡ old)
  pub asked : old.has_failed ≡ false → WritesOut writes old.writer bytes result new.writer
  pub unflushed : old.has_failed ≡ false → new.is_flushed ≡ false

-- A writer that has failed isn't asked again. Another is asked once, and whether it could flush is told.
pub record FlushesOnce {W : Type 0} (flushes : W → Bool → W → Type 0)
    (old : Output W) (result : Result (Unit {0}) WriteFailed) (new : Output W) : Type 0 where
  pub again : old.has_failed ≡ true → IsErr result × (new ≡ old)
  pub asked : old.has_failed ≡ false → flushes old.writer (is_ok result) new.writer
  pub flushed : old.has_failed ≡ false → new.is_flushed ≡ is_ok result
