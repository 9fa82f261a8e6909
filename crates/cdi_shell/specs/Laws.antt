-- A run of the program is told by its settings, its deployment and its input.
use Rattle.std.specs.Prelude.{◌≡◌, ℕ, Bool, IsTrue, List, Some, OnOk}
use Rattle.cdi_base.specs.declared.reply.Cause.TheVariants as causes
use Rattle.cdi_lines.specs.declared.fault.ServeFault.TheVariants as faults
use Rattle.cdi_lines.specs.Served.{Blames}
use Rattle.cdi_base.specs.declared.settings.Settings.{Settings}
use Rattle.cdi_shell.specs.declared.ending.Ending.{Ending}
use Rattle.cdi_shell.specs.declared.ending.Ending.TheVariants as endings
use Rattle.cdi_shell.specs.Drive.{Streams, Drives}
use Rattle.cdi_shell.specs.Endings.{outcome_of}

-- no read or write failed, and memory did not run out
abbrev pub IsSettled : Ending → Type 0
IsSettled (endings.Fault faults.TooLong (Some causes.Memory)) = ⊥
IsSettled (endings.Fault faults.TooLong _) = Unit {0}
IsSettled (endings.Fault _ _) = ⊥
IsSettled (endings.Halted causes.Memory) = ⊥
IsSettled _ = Unit {0}

-- the same was written, and the runs ended alike
pub record SameOutput (s s' : Streams) (e e' : Ending) : Type 0 where
  pub held_after : s.held_after ≡ s'.held_after
  pub ending : e ≡ e'

-- two runs with the same settings, on the same deployment and the same input, whose output goes behind the same bytes
abbrev pub OneOutput : Type 0
OneOutput =
    (o : Settings) (bytes input held : List ℕ) (s s' : Streams) (e e' : Ending)
    → IsSettled e → IsSettled e'
    → s.unread ≡ Some input → s'.unread ≡ Some input → s.held ≡ Some held → s'.held ≡ Some held
    → Drives o bytes s e → Drives o bytes s' e' → SameOutput s s' e e'

-- The program is run, and ends so. Where it was not disturbed, what it wrote and how it ended is what every such run
-- writes, and how it ends.
pub record DrivesOnce (o : Settings) (bytes : List ℕ) (streams : Streams)
    (source source_after sink sink_after is_passed_on : Bool) (ending : Ending) : Type 0 where
  pub drives : Drives o bytes streams ending
  pub blames : Blames (outcome_of ending) source source_after sink sink_after
  pub passed_on : OnOk (outcome_of ending) (IsTrue is_passed_on)
  pub only : (input held : List ℕ) (s : Streams) (e : Ending) → IsSettled ending → IsSettled e
      → streams.unread ≡ Some input → s.unread ≡ Some input
      → streams.held ≡ Some held → s.held ≡ Some held
      → Drives o bytes s e → SameOutput streams s ending e
