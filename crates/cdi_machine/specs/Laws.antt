-- Laws of the machine, over all its runs.
use Rattle.std.specs.Prelude.{ℕ, ◌≡◌, ◌<◌, ◌≤◌, ◌++◌, ◌⊎◌, List, length, false}
use Rattle.cdi_base.specs.declared.act.Act.{Act}
use Rattle.cdi_base.specs.declared.entry.Entry.{Entry}
use Rattle.cdi_bodies.specs.declared.view.View.{View}
use Rattle.cdi_machine.specs.Words.{Fields}
use Rattle.cdi_machine.specs.Tables.{Tables}
use Rattle.cdi_machine.specs.World.{World}
use Rattle.cdi_machine.specs.Programs.{Given, Prog}
use Rattle.cdi_machine.specs.Commands.{Command, task}
use Rattle.cdi_machine.specs.Runs.{Legal, Outcome, Cut, Runs}
use Rattle.cdi_machine.specs.Container.{State, before_commands, Leads}

pub record SameEnd (o o' : Outcome) (v v' : World) : Type 0 where
  pub outcome : o ≡ o'
  pub world : v ≡ v'

-- two runs of one program from one world whose entries agree have one outcome and one world
abbrev pub OneRun : Tables → Legal → Type 0
OneRun tables legal =
    (p : Prog Given) (w v v' : World) (o o' : Outcome) → Runs tables legal ⊥ p w o v
    → Runs tables legal ⊥ p w o' v' → v.trace ≡ v'.trace → SameEnd o o' v v'

-- at any place at most one act, and at most one pick, is legal
pub record IsOne (legal : Legal) : Type 0 where
  pub act : (body entries : ℕ) (fields : Fields) (view : View) (a b : Act)
      → legal.gives body entries fields view a → legal.gives body entries fields view b → a ≡ b
  pub pick : (count entries i j : ℕ) → legal.picks count entries i → legal.picks count entries j
      → i ≡ j

-- two runs of one program from one world, with one schedule, have one outcome and one world
abbrev pub OneSchedule : Tables → Legal → Type 0
OneSchedule tables legal =
    IsOne legal → (p : Prog Given) (w v v' : World) (o o' : Outcome) → Runs tables legal ⊥ p w o v
    → Runs tables legal ⊥ p w o' v' → SameEnd o o' v v'

-- entries are only added, within the budget
pub record Goes (w v : World) : Type 0 where
  pub more : List Entry
  pub trace : v.trace ≡ w.trace ++ more
  pub ticks : v.ticks ≡ w.ticks
  pub budget : length w.trace ≤ w.ticks → length v.trace ≤ v.ticks

abbrev pub Grows : Tables → Legal → Type 0 → Type 0
Grows tables legal Starved =
    (p : Prog Given) (w v : World) (o : Outcome) → Runs tables legal Starved p w o v → Goes w v

-- what is legal under the one is legal under the other
pub record IsWithin (small large : Legal) : Type 0 where
  pub act : (body entries : ℕ) (fields : Fields) (view : View) (a : Act)
      → small.gives body entries fields view a → large.gives body entries fields view a
  pub pick : (count entries i : ℕ) → small.picks count entries i → large.picks count entries i

-- a run under the one is a run under the other
abbrev pub Widens : Tables → Legal → Legal → Type 0
Widens tables small large =
    IsWithin small large → (p : Prog Given) (w v : World) (o : Outcome)
    → Runs tables small ⊥ p w o v
    → Runs tables large ⊥ p w o v

-- at any place some act, and of several candidates some pick, is legal
pub record IsServed (legal : Legal) : Type 0 where
  pub act : (body entries : ℕ) (fields : Fields) (view : View)
      → (a : Act) × legal.gives body entries fields view a
  pub pick : (count entries : ℕ) → 1 < count → (i : ℕ) × (i < count) × legal.picks count entries i

-- every program has a run from every world: it ends, and its rules leave no gap
abbrev pub Ends : Tables → Legal → Type 0
Ends tables legal =
    (p : Prog Given) (w : World) → (o : Outcome) × (v : World) × Runs tables legal ⊥ p w o v

-- so many entries as the one, and from then on as the other
abbrev pub followed_by : ℕ → Legal → Legal → Legal
followed_by n first then =
    record {
      gives =
          λ body entries fields view a. first.gives body entries fields view a
          ⊎ ((n ≤ entries) × then.gives body entries fields view a);
      picks =
          λ count entries i. first.picks count entries i
          ⊎ ((n ≤ entries) × then.picks count entries i);
    }

-- If memory runs out, the entries are the first ones of a run: of one in which, behind them, acts and picks need only be
-- such as `loose` has it.
abbrev pub OnItsWay : Tables → Legal → Legal → Type 0
OnItsWay tables legal loose =
    (p : Prog Given) (w v : World) (o : Outcome) → Runs tables legal (Unit {0}) p w o v
    → (o' : Outcome) × (v' : World)
    × Runs tables (followed_by (length v.trace) legal loose) ⊥ p w o' v' × Goes v v'

-- ---- what is running

abbrev pub IsEnd : Outcome → Type 0
IsEnd (Outcome.Ends c) = Unit {0}
IsEnd (Cut cause) = ⊥

-- nothing is running: no invocation, no body, no temporaries
pub record IsAtRest (w : World) : Type 0 where
  pub invocations : length w.invocations ≡ 0
  pub bodies : length w.bodies ≡ 0
  pub temporaries : length w.temporaries ≡ 0

-- a command that isn't cut leaves nothing running
abbrev pub Rests : Tables → Legal → Type 0
Rests tables legal =
    (c : Command) (w v : World) (o : Outcome) → Runs tables legal ⊥ (task c) w o v → IsEnd o
    → IsAtRest w
    → IsAtRest v

-- nor is anything running behind any commands that a container began with, unless it is halted
abbrev pub RestsBetween : Tables → Legal → Type 0
RestsBetween tables legal =
    (ticks depth : ℕ) (cs : List Command) (s : State)
    → Leads tables legal (before_commands ticks depth) cs s
    → s.halted ≡ false
    → IsAtRest s.world
