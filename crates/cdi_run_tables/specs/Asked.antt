-- What is remembered of the questions of commands.
use Rattle.std.specs.Prelude.{ℕ, ◌≡◌, Contains}
use Rattle.cdi_run_tables.specs.Machine.{resolution_of}
use Rattle.cdi_run_tables.specs.declared.asked.CommandAnswer.{CommandAnswer}
use Rattle.cdi_run_tables.specs.declared.asked.CommandAnswers.{CommandAnswers}
use Rattle.cdi_run_tables.specs.Parts.{RunParts}

-- an answer is what resolution tells
abbrev pub IsTold : RunParts → CommandAnswer → Type 0
IsTold t a = a.told ≡ resolution_of t a.bean_type a.qualifiers

abbrev pub AreTold : RunParts → CommandAnswers → Type 0
AreTold t asked = (hash : ℕ) (a : CommandAnswer) → Contains asked.answers.entries (hash, a) → IsTold t a
