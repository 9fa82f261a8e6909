-- The exceptions that a container of an accepted deployment replies: the class of each is a name of its table.
use Rattle.std.specs.Prelude.{ℕ, ◌≡◌, List, Some, slice_get}
use Rattle.cdi_base.specs.declared.reply.Reply.{Reply}
use Rattle.cdi_base.specs.declared.reply.Reply.TheVariants as replies
use Rattle.cdi_ledger.specs.Ledger.{Item}
use Rattle.cdi_machine.specs.Commands.{Command}
use Rattle.cdi_machine.specs.Runs.{Legal}
use Rattle.cdi_problems.specs.Places.{name_text}
use Rattle.cdi_run_tables.specs.Machine.{machine_tables}
use Rattle.cdi_run_tables.specs.declared.tables.RunTables.{RunTables}
use Rattle.cdi_container.specs.History.{History}
use Rattle.cdi_container.specs.States.{ContainerState, AnswersCommand}

-- if the reply tells an exception, then the text in its line is the one that the table has for the exception's class
abbrev pub TellsName : List (List ℕ) → Reply → Type 0
TellsName names (replies.Threw class) = slice_get names class ≡ Some (name_text names class)
TellsName names _ = Unit {0}

-- each exception that a container of these tables replies, to its start or to a later command, is told by a name of its table
abbrev pub NamesThrown : RunTables → Legal → Type 0
NamesThrown t legal =
    (s u : ContainerState) (h : List Item) → History (machine_tables t) legal (Unit {0}) s h
    → (c : Command) (reply : Reply)
    → AnswersCommand (machine_tables t) legal (Unit {0}) s c reply u
    → TellsName t.deployment.names reply
