-- What the driver has been through between two steps of a run: it was told all that is written, and asked for each act and each pick of
-- it, and for the one that is due.
use Rattle.std.specs.Prelude.{◌≡◌, ◌≤◌, ◌<◌, ◌++◌, ◌⊎◌, length, Bool, true, false}
use Rattle.cdi_base.specs.declared.entry.Entry.{Entry}
use Rattle.cdi_machine.specs.declared.driver.Failure.{Failure}
use Rattle.cdi_machine.specs.declared.driver.Failure.TheVariants.{Memory, Exhausted}
use Rattle.cdi_machine.specs.World.{World, with_entry}
use Rattle.cdi_machine.specs.Hearing.{Hearing, Ending, IsTold, with_asking, after}
use Rattle.cdi_steps.specs.Driving.{with_asked}
use Rattle.cdi_steps.specs.declared.task.Outcome.{Outcome}
use Rattle.cdi_steps.specs.declared.task.Outcome.TheVariants as outcomes
use Rattle.cdi_steps.specs.declared.task.Next.{Next}
use Rattle.cdi_steps.specs.declared.task.Next.TheVariants as nexts
use Rattle.cdi_frames.specs.declared.stack.Pending.{Pending}
use Rattle.cdi_frames.specs.declared.stack.Pending.TheVariants as pendings
use Rattle.cdi_frames.specs.declared.stack.Stack.{Stack}
use Rattle.cdi_frames.specs.declared.stack.Turn.{Turn}
use Rattle.cdi_frames.specs.declared.stack.Turn.TheVariants as turns

-- ---- one entry

-- it was written within the budget, or the budget is spent
pub record Written (e : Entry) (w v : World) : Type 0 where
  pub room : length w.trace < w.ticks
  pub world : v ≡ with_entry e w

pub record Spent (w v : World) : Type 0 where
  pub full : w.ticks ≤ length w.trace
  pub world : v ≡ w

abbrev pub Noted : Entry → World → Bool → World → Type 0
Noted e w true v = Written e w v
Noted e w false v = Spent w v

-- it was told if it was written
abbrev pub ToldIf : Bool → Entry → (Hearing → Type 0) → (Hearing → Type 0) → Type 0
ToldIf true e before then = IsTold e before then
ToldIf false e before then = (h : Hearing) → before h → then h

-- ---- a run

abbrev pub IsCut : Outcome → Type 0
IsCut (outcomes.Cut cause) = Unit {0}
IsCut (outcomes.Ends c) = ⊥

-- an act or a pick was asked for that is not written, since the budget had no room
pub record HasHeardMore (heard : Hearing → Type 0) (w : World) (h : Hearing) : Type 0 where
  pub more : heard (with_asking (after h w.trace))
  pub full : w.ticks ≤ length w.trace

-- what is written was told, and as many acts and picks were asked for; only a cut may have come in between
abbrev pub HasHeardUntil : Type 0 → (Hearing → Type 0) → World → Hearing → Type 0
HasHeardUntil Cut heard w h = heard (after h w.trace) ⊎ (Cut × HasHeardMore heard w h)

abbrev pub HasHeardAt : Pending → (Hearing → Type 0) → World → Hearing → Type 0
HasHeardAt (pendings.Does p) heard w h = heard (after h w.trace)
HasHeardAt (pendings.Gives o) heard w h = HasHeardUntil (IsCut o) heard w h
HasHeardAt (pendings.Writes e a) heard w h = heard (with_asked e (after h w.trace))

abbrev pub HasHeardIn : Turn → (Hearing → Type 0) → World → Hearing → Type 0
HasHeardIn (turns.Running a) heard w h = HasHeardAt a.pending heard w h
HasHeardIn (turns.Finished o) heard w h = HasHeardUntil (IsCut o) heard w h

-- from a stack to what a turn comes to
pub record HearsTurn (before : Hearing → Type 0) (a : Stack) (w : World) (turn : Turn)
    (then : Hearing → Type 0) (v : World) : Type 0 where
  pub heard : (h : Hearing) → HasHeardAt a.pending before w h → HasHeardIn turn then v h

-- from the begin of a run to its outcome
pub record HearsOutcome (before : Hearing → Type 0) (w : World) (o : Outcome)
    (then : Hearing → Type 0) (v : World) : Type 0 where
  pub heard : (h : Hearing) → before (after h w.trace) → HasHeardUntil (IsCut o) then v h

-- a cut goes outwards, and nothing else happens
abbrev pub PassesCut : Outcome → World → Next → World → Type 0
PassesCut (outcomes.Ends c) w next v = Unit {0}
PassesCut (outcomes.Cut cause) w next v = (next ≡ nexts.Finished (outcomes.Cut cause)) × (v ≡ w)

-- ---- failures

-- it has ended for this reason, and was told just what is written
pub record EndsAfter (ended : Ending → Hearing → Type 0) (v : World) (why : Ending) (h : Hearing)
    : Type 0 where
  pub hearing : Hearing
  pub told : hearing.told ≡ h.told ++ v.trace
  pub reason : ended why hearing

-- from a stack: memory ran out, and the driver has not ended; or it has, and was one that may
pub data HasFailedAt (MayEnd : Type 0) (before : Hearing → Type 0) (d : Pending) (w : World)
    (then : Hearing → Type 0) (ended : Ending → Hearing → Type 0) (v : World) : Failure → Type 0 where
  starves : ((h : Hearing) → HasHeardAt d before w h → (k : Hearing) × then k)
      → HasFailedAt MayEnd before d w then ended v Memory
  ends : (reason : Ending) → MayEnd
      → ((h : Hearing) → HasHeardAt d before w h → EndsAfter ended v reason h)
      → HasFailedAt MayEnd before d w then ended v Exhausted
