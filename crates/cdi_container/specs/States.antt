-- What a container is between two commands, and what a command does to it.
use Rattle.std.specs.Prelude.{ℕ, ◌≡◌, ◌∷◌, Option, Some, None, is_some}
use Rattle.cdi_base.specs.declared.reply.Cause.{Cause}
use Rattle.cdi_base.specs.declared.reply.Cause.TheVariants as causes
use Rattle.cdi_base.specs.declared.reply.Refusal.{Refusal}
use Rattle.cdi_base.specs.declared.reply.Refusal.TheVariants as refusals
use Rattle.cdi_base.specs.declared.reply.Reply.{Reply}
use Rattle.cdi_base.specs.declared.reply.Reply.TheVariants as replies
use Rattle.cdi_contexts.specs.Refusals.{first_that_holds}
use Rattle.cdi_machine.specs.Tables.{Tables}
use Rattle.cdi_machine.specs.World.{World, at_begin, before_boot}
use Rattle.cdi_machine.specs.Programs.{Given, Prog}
use Rattle.cdi_machine.specs.Commands.{Command, task}
use Rattle.cdi_machine.specs.Container as machine
use Rattle.cdi_machine.specs.Container.{refusal, refused_by_contexts, reply_to}
use Rattle.cdi_machine.specs.Runs.{Legal, Outcome, Ends, Cut, Runs}

-- the machine's world, and why the container has halted if it has
pub record ContainerState : Type 0 where
  pub world : World
  pub halted : Option Cause

-- the machine's state, which doesn't tell why, and is never busy
abbrev pub machine_state : ContainerState → machine.State
machine_state s = machine.idle_state s.world (is_some s.halted)

abbrev pub before_start : ℕ → ℕ → ContainerState
before_start ticks depth = record { world = before_boot ticks depth; halted = None }

-- all is as it was, but for the trace and the environment of the command before
abbrev pub after_refusal : ContainerState → ContainerState
after_refusal s = record s { world = at_begin s.world }

-- what refuses a command whatever the deployment is: it is looked at before any memory is asked for
abbrev pub refusal_in_state : machine.State → Command → Option Refusal
refusal_in_state s c =
    first_that_holds
    ((s.halted, refusals.Halted) ∷
    (s.world.down, refusals.Down) ∷
    (s.busy, refusals.Busy) ∷
    refused_by_contexts s.world.contexts c)

-- it asks with names of the deployment, so that more may refuse it
abbrev pub AsksByName : Command → Type 0
AsksByName (Command.Call request asked method args) = Unit {0}
AsksByName (Command.Read request asked) = Unit {0}
AsksByName (Command.Fire request class qualifiers v) = Unit {0}
AsksByName _ = ⊥

-- nothing was carried out, and the container has halted for want of memory
abbrev pub without_memory : ContainerState → ContainerState
without_memory s = record { world = at_begin s.world; halted = Some causes.Memory }

-- a cut halts the container
abbrev pub cause_of : Outcome → Option Cause
cause_of (Cut cause) = Some cause
cause_of (Ends c) = None

-- A program is carried out. If memory runs out in it, the entries so far are those of a run on its way, and it is cut.
pub data CarriesOut (tables : Tables) (legal : Legal) (Starved : Type 0)
    (p : Prog Given) (w : World) : Outcome → World → Type 0 where
  ends : {o : Outcome} {v : World} → Runs tables legal ⊥ p w o v
      → CarriesOut tables legal Starved p w o v
  starves : {v : World} → Starved → Runs tables legal (Unit {0}) p w (Cut causes.Memory) v
      → CarriesOut tables legal Starved p w (Cut causes.Memory) v

-- A command is refused, or it is carried out with an empty trace at first, and a cut halts the container. If memory is
-- wanting for the names that it asks with, then it is cut before that, in place of what the tables refuse.
pub data AnswersCommand (tables : Tables) (legal : Legal) (Starved : Type 0) (s : ContainerState) (c : Command)
    (reply : Reply) (t : ContainerState) : Type 0 where
  refuses : (r : Refusal) → refusal tables (machine_state s) c ≡ Some r
      → reply ≡ replies.Refused r
      → t ≡ after_refusal s
      → AnswersCommand tables legal Starved s c reply t
  carries_out : (o : Outcome) → refusal tables (machine_state s) c ≡ None
      → CarriesOut tables legal Starved (task c) (at_begin s.world) o t.world
      → t.halted ≡ cause_of o
      → reply ≡ reply_to c o t.world
      → AnswersCommand tables legal Starved s c reply t
  lacks_memory : Starved → AsksByName c → refusal_in_state (machine_state s) c ≡ None
      → reply ≡ replies.Halted causes.Memory
      → t ≡ without_memory s
      → AnswersCommand tables legal Starved s c reply t

-- the start, its reply and what the container is then
abbrev pub Boots : Tables → Legal → Type 0 → ℕ → ℕ → Reply → ContainerState → Type 0
Boots tables legal Starved ticks depth reply t =
    AnswersCommand tables legal Starved (before_start ticks depth) Command.Boot reply t
