-- The runs of a program.
use Rattle.std.specs.Prelude.{ℕ, ◌<◌, ◌≤◌, length}
use Rattle.cdi_base.specs.declared.act.Act.{Act}
use Rattle.cdi_base.specs.declared.entry.Entry.{Entry}
use Rattle.cdi_base.specs.declared.entry.Entry.TheVariants as entries
use Rattle.cdi_base.specs.declared.reply.Cause.{Cause}
use Rattle.cdi_base.specs.declared.reply.Cause.TheVariants as causes
use Rattle.cdi_bodies.specs.declared.view.View.{View}
use Rattle.cdi_machine.specs.Words.{Name, Fields}
use Rattle.cdi_machine.specs.Tables.{Tables, written_act}
use Rattle.cdi_machine.specs.World.{World, Change, after_change, with_entry}
use Rattle.cdi_machine.specs.Programs.{Task, Given, Completion, Gave, Threw, Prog, ret, throw, cut, miss, see, change, tick, mark, act, choose, nested, candidates}
use Rattle.cdi_machine.specs.Machine.{machine}

-- What is legal if the rules leave it open. Both are told how many entries the command has so far.
pub record Legal : Type 1 where
  -- which act a body may give, by its number, the fields of its instance and its view
  pub gives : ℕ → ℕ → Fields → View → Act → Type 0
  -- of so many candidates, which one may be picked
  pub picks : ℕ → ℕ → ℕ → Type 0

pub data Outcome : Type 0 where
  Ends : Completion Given → Outcome
  Cut : Cause → Outcome

-- what is left after a task
abbrev pub rest_after : Outcome → (Completion Given → Prog Given) → Prog Given
rest_after (Ends c) k = k c
rest_after (Cut cause) k = cut cause

-- The program may come to this outcome, from the one world to the other. If `Starved` holds, memory may run out at any
-- point.
pub data Runs (tables : Tables) (legal : Legal) (Starved : Type 0)
    : Prog Given → World → Outcome → World → Type 0 where
  returns : {g : Given} {w : World} → Runs tables legal Starved (ret g) w (Ends (Gave g)) w
  throws : {x : Name} {w : World} → Runs tables legal Starved (throw x) w (Ends (Threw x)) w
  cuts : {cause : Cause} {w : World} → Runs tables legal Starved (cut cause) w (Cut cause) w
  misses : {p : Prog Given} {w v : World} {o : Outcome}
      → Runs tables legal Starved p w o v
      → Runs tables legal Starved (miss p) w o v
  sees : {k : Tables → World → Prog Given} {w v : World} {o : Outcome}
      → Runs tables legal Starved (k tables w) w o v
      → Runs tables legal Starved (see k) w o v
  changes : {g : Change} {p : Prog Given} {w v : World} {o : Outcome}
      → Runs tables legal Starved p (after_change g w) o v
      → Runs tables legal Starved (change g p) w o v
  -- an entry is written within the budget, and if that is spent the command is cut
  writes : {e : Entry} {p : Prog Given} {w v : World} {o : Outcome}
      → length w.trace < w.ticks
      → Runs tables legal Starved p (with_entry e w) o v
      → Runs tables legal Starved (tick e p) w o v
  is_full : {e : Entry} {p : Prog Given} {w : World}
      → w.ticks ≤ length w.trace
      → Runs tables legal Starved (tick e p) w (Cut causes.Ticks) w
  marks : {n : ℕ} {p : Prog Given} {w v : World} {o : Outcome}
      → Runs tables legal Starved p w o v
      → Runs tables legal Starved (mark n p) w o v
  -- A body gives an act that is legal, and it is taken in its written form: a body may give uses in any order, with Any,
  -- and without null members. A candidate is picked that is legal. The entry is written next.
  does : {b : ℕ} {fields : Fields} {view : View} {k : Act → Prog Given}
      {w v : World} {o : Outcome} (a : Act)
      → legal.gives b (length w.trace) fields view a
      → Runs tables legal Starved
      (tick (entries.Did (written_act tables a)) (k (written_act tables a))) w o v
      → Runs tables legal Starved (act b fields view k) w o v
  picks : {n : ℕ} {k : ℕ → Prog Given} {w v : World} {o : Outcome} (i : ℕ)
      → i < candidates n
      → legal.picks (candidates n) (length w.trace) i
      → Runs tables legal Starved (tick (entries.Pick (candidates n) i) (k i)) w o v
      → Runs tables legal Starved (choose n k) w o v
  -- another task, and then what waits for it
  calls : {t : Task} {k : Completion Given → Prog Given} {w u v : World} {o1 o : Outcome}
      → Runs tables legal Starved (machine t) w o1 u
      → Runs tables legal Starved (rest_after o1 k) u o v
      → Runs tables legal Starved (nested t k) w o v
  -- memory runs out, and nothing is changed any more
  starves : {p : Prog Given} {w : World} → Starved
      → Runs tables legal Starved p w (Cut causes.Memory) w
