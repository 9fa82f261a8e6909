-- What a step does to the driver: it asks it for each act and each pick that is due to be written, and tells it nothing.
use Rattle.std.specs.Prelude.{ℕ, ◌+◌}
use Rattle.cdi_base.specs.declared.entry.Entry.{Entry}
use Rattle.cdi_machine.specs.Tables.{Tables}
use Rattle.cdi_machine.specs.Runs.{Legal}
use Rattle.cdi_machine.specs.Laws.{IsWithin}
use Rattle.cdi_machine.specs.declared.driver.Failure.{Failure}
use Rattle.cdi_machine.specs.declared.driver.Failure.TheVariants.{Memory, Exhausted}
use Rattle.cdi_machine.specs.Hearing.{Hearing, Ending, HasNotEnded, HasEnded, answers_of}
use Rattle.cdi_steps.specs.Known.{IsKnownBody}
use Rattle.cdi_steps.specs.declared.task.Next.{Next}
use Rattle.cdi_steps.specs.declared.task.Next.TheVariants as nexts

-- the driver has each body that can come to run
abbrev pub Drives : Tables → (ℕ → Type 0) → Type 0
Drives t IsBody = (body : ℕ) → IsKnownBody t body → IsBody body

-- the driver was asked, or told: nothing more is legal than before, all bodies are still there, and if it couldn't end it still can't
pub record Narrows (before then : Legal) (MayEnd StillMayEnd : Type 0) (IsBody StillBody : ℕ → Type 0)
    : Type 0 where
  pub legal : IsWithin then before
  pub may_end : StillMayEnd → MayEnd
  pub knows : (body : ℕ) → IsBody body → StillBody body

-- asked for what the entry answers
abbrev pub with_asked : Entry → Hearing → Hearing
with_asked e h = record h { asked = h.asked + answers_of e }

abbrev pub heard_for : Next → Hearing → Hearing
heard_for (nexts.Writes e p) h = with_asked e h
heard_for _ h = h

-- the driver was asked for the entry that is due, if that is an act or a pick, and for no other
pub record IsAskedFor (next : Next) (before then : Hearing → Type 0) : Type 0 where
  pub heard : (h : Hearing) → before h → then (heard_for next h)

-- memory ran out, and the driver has not ended; or it has, and was one that may
pub data HasFailed (MayEnd : Type 0) (before then : Hearing → Type 0) (ended : Ending → Hearing → Type 0)
    : Failure → Type 0 where
  starves : HasNotEnded before then → HasFailed MayEnd before then ended Memory
  ends : (reason : Ending) → HasEnded MayEnd before (ended reason)
      → HasFailed MayEnd before then ended Exhausted
