-- Command lines with what they ask for.
use Rattle.std.specs.Prelude.{ℕ, ◌≡◌, List, Ok, Contains, IfSome}
use Rattle.cdi_base.specs.declared.command.Command.{Command}
use Rattle.cdi_machine.specs.Tables.{Tables}
use Rattle.cdi_steps.specs.Known.{JobTellsRightly}
use Rattle.cdi_steps.specs.Words.{command_of}
use Rattle.cdi_steps.specs.declared.task.Job.{Job}
use Rattle.cdi_text.specs.Command.{command_in}
use Rattle.cdi_container.specs.Commands.{machine_command}
use Rattle.cdi_container.specs.declared.known_lines.KnownLine.{KnownLine}
use Rattle.cdi_container.specs.declared.known_lines.KnownLines.{KnownLines}

-- a line is a command that asks for this job, which tells nothing wrong of what it resolves to
pub record Asks (names : List (List ℕ)) (tables : Tables) (line : List ℕ) (job : Job) : Type 0 where
  pub command : Command
  pub read : command_in line ≡ Ok command
  pub asks : command_of job ≡ machine_command names command
  pub rightly : JobTellsRightly tables job

abbrev pub IsKnown : List (List ℕ) → Tables → KnownLine → Type 0
IsKnown names tables known = Asks names tables known.line.items known.job

-- so it is with each of these
abbrev pub AreAllKnown : List (List ℕ) → Tables → List (ℕ × KnownLine) → Type 0
AreAllKnown names tables entries =
    (hash : ℕ) (known : KnownLine) → Contains entries (hash, known) → IsKnown names tables known

abbrev pub AreKnown : List (List ℕ) → Tables → KnownLines → Type 0
AreKnown names tables kept =
    IfSome kept.lines (λ lines. AreAllKnown names tables lines.entries)
