-- A command that is carried out by turns, between which others can be served.
use Rattle.std.specs.Prelude.{◌≡◌, ◌≤◌, ℕ, suc, ◌+◌, ◌*◌, [], length, true, Option, Some, None, Result, Ok, Err, is_some, if◌then◌else◌}
use Rattle.cdi_base.specs.declared.reply.Cause.TheVariants as causes
use Rattle.cdi_base.specs.declared.reply.Reply.TheVariants as replies
use Rattle.cdi_base.specs.declared.reply.Refusal.{Refusal}
use Rattle.cdi_base.specs.declared.reply.Refusal.TheVariants as refusals
use Rattle.cdi_frames.specs.Stacks.{KnownStack, StepsTo, entries_left, program_of}
use Rattle.cdi_frames.specs.declared.stack.Stack.{Stack}
use Rattle.cdi_frames.specs.declared.stack.Pending.TheVariants as pendings
use Rattle.cdi_machine.specs.Commands.{Command}
use Rattle.cdi_machine.specs.Container.{refusal}
use Rattle.cdi_machine.specs.Runs.{Legal}
use Rattle.cdi_machine.specs.Tables.{Tables}
use Rattle.cdi_machine.specs.World.{at_begin}
use Rattle.cdi_steps.specs.Known.{JobTellsRightly, KnownJob}
use Rattle.cdi_steps.specs.Words.{command_of, outcome_of}
use Rattle.cdi_steps.specs.declared.task.Job.{Job}
use Rattle.cdi_steps.specs.declared.task.Outcome.{Outcome}
use Rattle.cdi_steps.specs.declared.task.Task.TheVariants as tasks
use Rattle.cdi_container.specs.Replies.{IsToldByEnd, has_value, reply_of}
use Rattle.cdi_container.specs.Standing.{ContainerParts, state_of}
use Rattle.cdi_container.specs.States.{ContainerState, AnswersCommand, CarriesOut, after_refusal, cause_of, machine_state, refusal_in_state, without_memory}
use Rattle.cdi_container.specs.declared.left.Left.{Left}
use Rattle.cdi_container.specs.declared.left.Left.TheVariants as lefts
use Rattle.cdi_container.specs.declared.left.Unadmitted.{Unadmitted}
use Rattle.cdi_container.specs.declared.left.Unadmitted.TheVariants as unadmitted
use Rattle.cdi_container.specs.declared.left.Progress.{Progress}
use Rattle.cdi_container.specs.declared.left.Progress.TheVariants as progresses
use Rattle.cdi_container.specs.declared.turns.Turned.{Turned}
use Rattle.cdi_container.specs.declared.turns.Turned.TheVariants as turneds

-- ---- what is left of a command

-- the stack of a job that begins
abbrev pub stack_of : Job → Stack
stack_of job = record { frames = []; pending = pendings.Does (tasks.Begin job) }

-- what the engine rests on, if something is left
abbrev pub KnownLeft : Tables → ContainerState → Option Left → Type 0
KnownLeft tables t None = Unit {0}
KnownLeft tables t (Some (lefts.Runs stack is_valued)) = KnownStack tables t.world stack
KnownLeft tables t (Some lefts.Tells) = refusal tables (machine_state t) Command.Live ≡ None
KnownLeft tables t (Some lefts.Starves) = Unit {0}

-- This is left of a command that was begun in the state s. Steps have led to what runs; nothing has been done for the live
-- instances, which are to be told, nor for what memory was wanting for.
pub data IsLeftOf (tables : Tables) (legal : Legal) (s : ContainerState)
    : Command → Left → ContainerState → Type 0 where
  runs : (job : Job) {stack : Stack} {t : ContainerState} → IsToldByEnd job
      → refusal tables (machine_state s) (command_of job) ≡ None
      → StepsTo tables legal (stack_of job) (at_begin s.world) stack t.world
      → IsLeftOf tables legal s (command_of job) (lefts.Runs stack (has_value job)) t
  tells : {t : ContainerState} → t ≡ after_refusal s
      → IsLeftOf tables legal s Command.Live lefts.Tells t
  starves : {c : Command} {t : ContainerState} → refusal_in_state (machine_state s) c ≡ None
      → t ≡ after_refusal s → IsLeftOf tables legal s c lefts.Starves t

-- a job that isn't refused, and tells what the use of a bean resolves to
pub record CanBegin (tables : Tables) (s : ContainerState) (job : Job) : Type 0 where
  pub unrefused : refusal tables (machine_state s) (command_of job) ≡ None
  pub known : KnownJob tables s.world job

-- A command is admitted as this job, and nothing changes; or all but the trace is as it was, and it is refused, or memory was
-- wanting.
abbrev pub AdmitsCommand : Tables → ContainerState → Command → Result Job Unadmitted → ContainerState → Type 0
AdmitsCommand tables s c (Ok job) t =
    (command_of job ≡ c) × CanBegin tables s job × JobTellsRightly tables job × (t ≡ s)
AdmitsCommand tables s c (Err (unadmitted.Refused r)) t =
    (refusal tables (machine_state s) c ≡ Some r) × (t ≡ after_refusal s)
AdmitsCommand tables s c (Err unadmitted.Starves) t =
    (refusal_in_state (machine_state s) c ≡ None) × (t ≡ after_refusal s)

-- A command is begun, and this is left of it; or it is refused, and all but the trace is as it was.
abbrev pub BeginsCommand : Tables → Legal → ContainerState → Command
    → Result Left Refusal → ContainerState → Type 0
BeginsCommand tables legal s c (Ok left) t = IsLeftOf tables legal s c left t
BeginsCommand tables legal s c (Err r) t =
    (refusal tables (machine_state s) c ≡ Some r) × (t ≡ after_refusal s)

-- a turn of what is left: steps lead on, or it is over
abbrev pub KeepsOn : Tables → Legal → Left → ContainerState → Progress → ContainerState → Type 0
KeepsOn tables legal (lefts.Runs a is_valued) t (progresses.Running left) u =
    (b : Stack) × (left ≡ lefts.Runs b is_valued) × StepsTo tables legal a t.world b u.world
KeepsOn tables legal (lefts.Runs a is_valued) t (progresses.Finished reply) u =
    (o : Outcome)
    × CarriesOut tables legal (Unit {0}) (program_of a) t.world (outcome_of o) u.world
    × (u.halted ≡ cause_of (outcome_of o)) × (reply ≡ reply_of is_valued o)
KeepsOn tables legal lefts.Tells t (progresses.Finished reply) u =
    AnswersCommand tables legal (Unit {0}) t Command.Live reply u
KeepsOn tables legal lefts.Starves t (progresses.Finished reply) u =
    (reply ≡ replies.Halted causes.Memory) × (u ≡ without_memory t)
KeepsOn tables legal _ t (progresses.Running left) u = ⊥

-- the rest is left of the command, or it is answered
abbrev pub GoesOnWith : Tables → Legal → ContainerState → Command → Progress → ContainerState → Type 0
GoesOnWith tables legal s c (progresses.Running left) t = IsLeftOf tables legal s c left t
GoesOnWith tables legal s c (progresses.Finished reply) t =
    AnswersCommand tables legal (Unit {0}) s c reply t

-- Whatever the turns are, a command that was started is answered as it may be at once: so each turn of what is left of it
-- leaves, also if less is legal by then than was at the start.
abbrev pub AnswersByTurns : Tables → Legal → Legal → Type 0
AnswersByTurns tables small large =
    (s t u : ContainerState) (c : Command) (left : Left) (progress : Progress)
    → IsLeftOf tables large s c left t → KeepsOn tables small left t progress u
    → GoesOnWith tables large s c progress u

abbrev pub left_in : Progress → Option Left
left_in (progresses.Running left) = Some left
left_in (progresses.Finished reply) = None

-- ---- a container that goes by turns

-- a container, what is left of the command that was started in it, and how many entries in front of the trace aren't shown
-- any more
pub record TurnsParts (Driving : Type 0) : Type 0 where
  pub container : ContainerParts Driving
  pub left : Option Left
  pub shown_from : ℕ

-- why a command is refused while one is under way
abbrev pub busy_refusal : ContainerState → Refusal
busy_refusal s =
    if is_some s.halted
    then refusals.Halted
    else (if s.world.down then refusals.Down else refusals.Busy)

-- A command is under way: another is refused, and what was written so far isn't shown any more.
pub record StaysBusy {Driving : Type 0} (t u : TurnsParts Driving) : Type 0 where
  pub busy : is_some t.left ≡ true
  pub container : u.container ≡ t.container
  pub left : u.left ≡ t.left
  pub shown_from : u.shown_from ≡ length (state_of t.container).world.trace

-- A command is started: it is refused, or this is left of it.
pub data StartsCommand {Driving : Type 0} (tables : Tables) (legal : Legal) (c : Command)
    (t : TurnsParts Driving) : Option Refusal → TurnsParts Driving → Type 0 where
  is_busy : {u : TurnsParts Driving} → StaysBusy t u
      → StartsCommand tables legal c t (Some (busy_refusal (state_of t.container))) u
  refuses : {u : TurnsParts Driving} (r : Refusal) → t.left ≡ None
      → refusal tables (machine_state (state_of t.container)) c ≡ Some r
      → state_of u.container ≡ after_refusal (state_of t.container)
      → u.left ≡ None → u.shown_from ≡ 0
      → StartsCommand tables legal c t (Some r) u
  starts : {u : TurnsParts Driving} (left : Left) → t.left ≡ None
      → IsLeftOf tables legal (state_of t.container) c left (state_of u.container)
      → u.left ≡ Some left → u.shown_from ≡ 0
      → StartsCommand tables legal c t None u

-- what a turn is told as
abbrev pub turned_of : Progress → Turned
turned_of (progresses.Running left) = turneds.Running
turned_of (progresses.Finished reply) = turneds.Finished reply

-- A turn: nothing is under way, or it goes on with what is left.
pub data TakesTurn {Driving : Type 0} (tables : Tables) (legal : Legal) (t : TurnsParts Driving)
    : Turned → TurnsParts Driving → Type 0 where
  idle : t.left ≡ None → TakesTurn tables legal t turneds.Idle t
  goes_on : {u : TurnsParts Driving} (left : Left) (progress : Progress) → t.left ≡ Some left
      → KeepsOn tables legal left (state_of t.container) progress (state_of u.container)
      → u.left ≡ left_in progress → u.shown_from ≡ t.shown_from
      → TakesTurn tables legal t (turned_of progress) u

-- just so many entries more, taken from the budget of the command
pub record WritesExactly (most : ℕ) (t u : ContainerState) : Type 0 where
  pub count : length u.world.trace ≡ length t.world.trace + most
  pub budget : entries_left u.world + length u.world.trace
      ≡ entries_left t.world + length t.world.trace

-- A turn writes no more than so many entries, and just so many if it goes on.
abbrev pub WritesMost : ℕ → ContainerState → Turned → ContainerState → Type 0
WritesMost most t turneds.Running u = WritesExactly most t u
WritesMost most t _ u = length u.world.trace ≤ length t.world.trace + most

-- so many turns that go on, each of so many entries
pub data GoOn (most : ℕ) : ℕ → ContainerState → ContainerState → Type 0 where
  none : {t : ContainerState} → GoOn most 0 t t
  once_more : {n : ℕ} {t u v : ContainerState} → WritesExactly most t u → GoOn most n u v
      → GoOn most (suc n) t v

-- Turns of a command that go on write no more entries than its container lets a command have: so with a limit of N, it is over
-- after at most N + 1 turns of 1.
abbrev pub EndsByTurns : Tables → Legal → Type 0
EndsByTurns tables legal =
    (most n : ℕ) (s t u : ContainerState) (c : Command) (left : Left) → GoOn most n t u
    → IsLeftOf tables legal s c left u → n * most ≤ s.world.ticks
