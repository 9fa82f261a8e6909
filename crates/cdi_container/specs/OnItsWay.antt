-- That each command has an answer, and what was written of one in which memory ran out.
use Rattle.std.specs.Prelude.{◌≡◌, length, None}
use Rattle.cdi_base.specs.declared.reply.Reply.{Reply}
use Rattle.cdi_machine.specs.Commands.{Command, task}
use Rattle.cdi_machine.specs.Container.{refusal}
use Rattle.cdi_machine.specs.Laws.{Goes, followed_by}
use Rattle.cdi_machine.specs.Runs.{Legal, Outcome, Runs}
use Rattle.cdi_machine.specs.Tables.{Tables}
use Rattle.cdi_machine.specs.World.{World, at_begin}
use Rattle.cdi_container.specs.States.{ContainerState, AnswersCommand, machine_state}

-- whatever state a container is in, each command has an answer, if there is memory
abbrev pub AlwaysAnswers : Tables → Legal → Type 0
AlwaysAnswers tables legal =
    (s : ContainerState) (c : Command) → (reply : Reply) × (t : ContainerState) × AnswersCommand tables legal ⊥ s c reply t

-- What stands written is the front of what a run of the command writes that has memory enough: up to there acts and picks
-- are legal, and behind that they need only be such as `loose` has it.
pub record IsFrontOfRun (tables : Tables) (legal loose : Legal) (c : Command) (s t : ContainerState)
    : Type 0 where
  pub outcome : Outcome
  pub world : World
  pub run : Runs tables (followed_by (length t.world.trace) legal loose) ⊥
      (task c) (at_begin s.world) outcome world
  pub more : Goes t.world world

-- so it is with each command that isn't refused, also if memory ran out in it
abbrev pub StaysOnItsWay : Tables → Legal → Legal → Type 0
StaysOnItsWay tables legal loose =
    (s t : ContainerState) (c : Command) (reply : Reply) → refusal tables (machine_state s) c ≡ None
    → AnswersCommand tables legal (Unit {0}) s c reply t
    → IsFrontOfRun tables legal loose c s t
