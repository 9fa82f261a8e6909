-- What a stack means: the program that is left to run, and its steps.
use Rattle.std.specs.Prelude.{ℕ, ◌≡◌, ◌≤◌, ◌<◌, ◌+◌, ◌-◌, List, [], ◌∷◌, length, Ok, Err}
use Rattle.std.specs.Prelude.{Result as Either}
use Rattle.cdi_base.specs.declared.reply.Cause.TheVariants as causes
use Rattle.cdi_machine.specs.declared.driver.Failure.{Failure}
use Rattle.cdi_base.specs.declared.entry.Entry.{Entry}
use Rattle.cdi_machine.specs.Tables.{Tables}
use Rattle.cdi_machine.specs.World.{World, with_entry}
use Rattle.cdi_machine.specs.Programs.{Given, Prog, tick}
use Rattle.cdi_machine.specs.Runs as runs
use Rattle.cdi_machine.specs.Runs.{Legal, Runs}
use Rattle.cdi_steps.specs.Words.{outcome_of}
use Rattle.cdi_steps.specs.Meanings.{over, around, node, first, continuation, waits, after}
use Rattle.cdi_steps.specs.Leads.{Comes}
use Rattle.cdi_steps.specs.Known.{AllInvoked, Known, KnownContinuation, KnownFrame}
use Rattle.cdi_steps.specs.declared.task.Continuation.{Continuation}
use Rattle.cdi_steps.specs.declared.task.Outcome.TheVariants as outcomes
use Rattle.cdi_steps.specs.declared.task.Task.TheVariants as tasks
use Rattle.cdi_steps.specs.declared.task.Outcome.{Outcome}
use Rattle.cdi_steps.specs.declared.task.Task.{Task}
use Rattle.cdi_steps.specs.declared.task.Frame.{Frame}
use Rattle.cdi_steps.specs.declared.task.Next.{Next}
use Rattle.cdi_steps.specs.declared.task.Next.TheVariants as nexts
use Rattle.cdi_frames.specs.declared.stack.Pending.{Pending}
use Rattle.cdi_frames.specs.declared.stack.Pending.TheVariants as pendings
use Rattle.cdi_frames.specs.declared.stack.Stack.{Stack}
use Rattle.cdi_frames.specs.declared.stack.Turn.{Turn}
use Rattle.cdi_frames.specs.declared.stack.Turn.TheVariants as turns

-- ---- the program that is left

-- what is next
abbrev pub program_ahead : Pending → Prog Given
program_ahead (pendings.Does t) = first t
program_ahead (pendings.Gives o) = over o
program_ahead (pendings.Writes e a) = tick e (continuation a)

-- a program, and then, from the innermost outwards, what waits
abbrev pub program_within : List Frame → Prog Given → Prog Given
program_within [] p = p
program_within (k ∷ ks) p = program_within ks (around p (waits k))

abbrev pub program_of : Stack → Prog Given
program_of a = program_within a.frames (program_ahead a.pending)

-- ---- steps

abbrev pub frames_with : List Frame → Next → List Frame
frames_with ks (nexts.Needs p k) = k ∷ ks
frames_with ks _ = ks

abbrev pub pending_for : Next → Pending
pending_for (nexts.Finished o) = pendings.Gives o
pending_for (nexts.Goes p) = pendings.Does p
pending_for (nexts.Needs p k) = pendings.Does p
pending_for (nexts.Writes e a) = pendings.Writes e a

-- a stack of these frames, at which this is next
abbrev pub stack_at : List Frame → Pending → Stack
stack_at ks d = record { frames = ks; pending = d }

-- the stack at which a step that leaves these frames comes to this
abbrev pub stack_after : List Frame → Next → Stack
stack_after ks next = stack_at (frames_with ks next) (pending_for next)

-- So many steps, each of what is next, of what waits for it, or of an entry that is due, lead from the one stack and world to the
-- other.
pub data Steps (t : Tables) (legal : Legal)
    : List Frame → Pending → World → List Frame → Pending → World → Type 0 where
  stays : {ks : List Frame} {d : Pending} {w : World} → Steps t legal ks d w ks d w
  does : {ks js : List Frame} {p : Task} {e : Pending} {w u v : World} (next : Next)
      → Comes t legal (first p) w (node next) u
      → Steps t legal (frames_with ks next) (pending_for next) u js e v
      → Steps t legal ks (pendings.Does p) w js e v
  gives : {ks js : List Frame} {k : Frame} {o : Outcome} {e : Pending} {w u v : World}
      (next : Next)
      → Comes t legal (after k o) w (node next) u
      → Steps t legal (frames_with ks next) (pending_for next) u js e v
      → Steps t legal (k ∷ ks) (pendings.Gives o) w js e v
  -- within the budget
  writes : {ks js : List Frame} {a : Continuation} {i : Entry} {e : Pending} {w v : World}
      → length w.trace < w.ticks
      → Steps t legal ks (pendings.Does (tasks.Continue a)) (with_entry i w) js e v
      → Steps t legal ks (pendings.Writes i a) w js e v
  -- beyond it
  fills : {ks js : List Frame} {a : Continuation} {i : Entry} {e : Pending} {w v : World}
      → w.ticks ≤ length w.trace
      → Steps t legal ks (pendings.Gives (outcomes.Cut causes.Ticks)) w js e v
      → Steps t legal ks (pendings.Writes i a) w js e v

abbrev pub StepsTo : Tables → Legal → Stack → World → Stack → World → Type 0
StepsTo t legal a w b v = Steps t legal a.frames a.pending w b.frames b.pending v

-- what a stack meant follows from what it means after its steps
abbrev pub KeepsMeaning : Tables → Legal → Type 0 → Type 0
KeepsMeaning t legal Starved =
    (a b : Stack) (w u v : World) (o : runs.Outcome) → StepsTo t legal a w b u
    → Runs t legal Starved (program_of b) u o v
    → Runs t legal Starved (program_of a) w o v

-- If it is running, steps have led there; if it is finished, the program that was left came to this; and one that
-- failed was on its way.
abbrev pub TurnsTo : Tables → Legal → Stack → World → Either Turn Failure → World → Type 0
TurnsTo t legal a w (Ok (turns.Running b)) v = StepsTo t legal a w b v
TurnsTo t legal a w (Ok (turns.Finished o)) v = Runs t legal ⊥ (program_of a) w (outcome_of o) v
TurnsTo t legal a w (Err failure) v =
    Runs t legal (Unit {0}) (program_of a) w (runs.Cut causes.Memory) v

-- ---- entries

abbrev pub entries_left : World → ℕ
entries_left w = w.ticks - length w.trace

-- an entry is due
abbrev pub IsDue : Pending → Type 0
IsDue (pendings.Writes e a) = Unit {0}
IsDue _ = ⊥

-- no more than so many entries were written, and they are taken from the budget
pub record AddsAtMost (most : ℕ) (w v : World) : Type 0 where
  pub low : length w.trace ≤ length v.trace
  pub high : length v.trace ≤ length w.trace + most
  pub budget : entries_left v + length v.trace ≡ entries_left w + length w.trace

-- and just so many if it goes on: then one more is due
pub record StopsAt (most : ℕ) (w : World) (b : Stack) (v : World) : Type 0 where
  pub count : length v.trace ≡ length w.trace + most
  pub due : IsDue b.pending

abbrev pub KeepsCount : ℕ → World → Turn → World → Type 0
KeepsCount most w (turns.Running b) v = StopsAt most w b v
KeepsCount most w (turns.Finished o) v = Unit {0}

-- ---- what a stack rests on

abbrev pub KnownPending : Tables → World → Pending → Type 0
KnownPending t w (pendings.Does p) = Known t w p
KnownPending t w (pendings.Gives o) = Unit {0}
KnownPending t w (pendings.Writes e a) = KnownContinuation t w a

abbrev pub KnownFrames : Tables → List Frame → Type 0
KnownFrames t [] = Unit {0}
KnownFrames t (k ∷ ks) = KnownFrame t k × KnownFrames t ks

pub record KnownStack (t : Tables) (w : World) (a : Stack) : Type 0 where
  pub frames : KnownFrames t a.frames
  pub pending : KnownPending t w a.pending
  pub invoked : AllInvoked t w

abbrev pub KnownTurn : Tables → World → Turn → Type 0
KnownTurn t w (turns.Running b) = KnownStack t w b
KnownTurn t w (turns.Finished o) = Unit {0}
