-- Commands while one that was started isn't over.
use Rattle.std.specs.Prelude.{◌≡◌, List, [], ◌∷◌, Some, None, true, false, codes}
use Rattle.cdi_base.specs.declared.entry.Entry.{Entry}
use Rattle.cdi_base.specs.declared.entry.Entry.TheVariants as entries
use Rattle.cdi_base.specs.declared.reply.Reply.TheVariants as replies
use Rattle.cdi_base.specs.declared.reply.Refusal.{Refusal}
use Rattle.cdi_base.specs.declared.reply.Refusal.TheVariants as refusals
use Rattle.cdi_machine.specs.Tables.{Tables}
use Rattle.cdi_machine.specs.World.{before_boot, with_entry}
use Rattle.cdi_machine.specs.Commands.{Command}
use Rattle.cdi_machine.specs.Container.{State, Said, Plays, shown_entries, refusal, after_refusal}
use Rattle.cdi_machine.specs.Deployments.{of_type, first_chosen, played_by, tables_of}
use Rattle.cdi_machine.specs.Evaluator.{legal_in}
use Rattle.cdi_machine.specs.Worked.Startup.{deployment}

-- a command in the request r has written two entries so far
abbrev pub busy_state : State
busy_state =
    record {
      world =
          record (before_boot 100000 32) {
            environment = record { request = Some (codes "r"); session = None };
            trace = entries.Ready 1 ∷ entries.Gone 1 ∷ [];
          };
      halted = false;
      busy = true;
      shown_from = 0;
    }

abbrev pub halted_state : State
halted_state = record busy_state { halted = true }

abbrev pub down_state : State
down_state = record busy_state { world = record busy_state.world { down = true } }

-- whatever the tables are, every command is refused so
abbrev pub RefusesAll : State → Refusal → Type 0
RefusesAll s r = (tables : Tables) (c : Command) → refusal tables s c ≡ Some r

abbrev pub busy_refuses_every_command : Type 0
busy_refuses_every_command = RefusesAll busy_state refusals.Busy

abbrev pub halted_is_told_before_busy : Type 0
halted_is_told_before_busy = RefusesAll halted_state refusals.Halted

abbrev pub down_is_told_before_busy : Type 0
down_is_told_before_busy = RefusesAll down_state refusals.Down

abbrev pub commands : List Command
commands = Command.Shutdown ∷ Command.Call (Some (codes "q")) (of_type 20) 21 [] ∷ []

abbrev pub said_busy : Said
said_busy = record { entries = []; reply = replies.Refused refusals.Busy }

-- nothing is shown of one that is refused
abbrev pub busy_refusals_show_nothing : Type 0
busy_refusals_show_nothing =
    Plays (tables_of deployment) (legal_in (played_by deployment first_chosen)) busy_state
    commands
    (said_busy ∷ said_busy ∷ [])

-- but what was written, the environment and the budget stay those of the started command
abbrev pub busy_refusal_only_hides : Type 0
busy_refusal_only_hides = after_refusal busy_state ≡ record busy_state { shown_from = 2 }

abbrev pub with_written : Entry → State → State
with_written e s = record s { world = with_entry e s.world }

-- what that writes later is shown
abbrev pub later_entries_are_shown : Type 0
later_entries_are_shown =
    shown_entries (with_written (entries.End 2) (after_refusal busy_state)) ≡ entries.End 2 ∷ []
