-- What holds of the items of each run in which nothing is missing, from what is asked and given at each call.
use Rattle.std.proofs.Common.{ℕ, ◌<◌, List, ◌∷◌}
use Rattle.cdi_base.specs.declared.act.Act.{Act}
use Rattle.cdi_base.specs.declared.entry.Entry.TheVariants as entries
use Rattle.cdi_machine.specs.Tables.{Tables, written_act}
use Rattle.cdi_machine.specs.World.{World, after_change, with_entry}
use Rattle.cdi_machine.specs.Programs.{Task, Given, Completion, Gave, Threw, Prog, ret, throw, cut, miss, see, change, tick, mark, act, choose, nested, candidates}
use Rattle.cdi_machine.specs.Machine.{machine}
use Rattle.cdi_machine.specs.Runs.{Legal, Outcome, Ends, Cut, Runs}
use Rattle.cdi_ledger.specs.Ledger.{Item, Wrote, Between, with_birth, items_of}
use Rattle.cdi_whole.specs.Missing.{NothingMissing}

module _ (tables : Tables) (legal : Legal) (E : List Item → Type 0) (G : World → List Item → Type 0) (Pre : Task → World → List Item → Type 0) (Post : Task → World → List Item → Completion Given → World → List Item → Type 0) where
  -- E holds at each point, and G wherever it calls or ends; nothing is asked where something is missing
  abbrev pub Tells : {A : Type 0} → Prog A → World → List Item → (Completion A → World → List Item → Type 0) → Type 0
  Tells (ret a) w h Q = E h × (G w h × Q (Gave a) w h)
  Tells (throw x) w h Q = E h × (G w h × Q (Threw x) w h)
  Tells (cut cause) w h Q = E h
  Tells (miss p) w h Q = E h
  Tells (see k) w h Q = E h × Tells (k tables w) w h Q
  Tells (change g p) w h Q = E h × Tells p (after_change g w) (with_birth g w h) Q
  Tells (tick e p) w h Q = E h × Tells p (with_entry e w) (Wrote e ∷ h) Q
  Tells (mark n p) w h Q = E h × Tells p w (Between n ∷ h) Q
  Tells (act b fields view k) w h Q = E h × ((count : ℕ) (a : Act) → legal.gives b count fields view a → Tells (k (written_act tables a)) (with_entry (entries.Did (written_act tables a)) w) (Wrote (entries.Did (written_act tables a)) ∷ h) Q)
  Tells (choose n k) w h Q = E h × ((i : ℕ) → i < candidates n → Tells (k i) (with_entry (entries.Pick (candidates n) i) w) (Wrote (entries.Pick (candidates n) i) ∷ h) Q)
  Tells (nested t k) w h Q = E h × (G w h × (Pre t w h × ((c : Completion Given) (w1 : World) (h1 : List Item) → G w1 h1 → Post t w h c w1 h1 → Tells (k c) w1 h1 Q)))

  pub so_far : {A : Type 0} (p : Prog A) (w : World) (h : List Item) (Q : Completion A → World → List Item → Type 0) → Tells p w h Q → E h
  so_far (ret a) w h Q d = d.0
  so_far (throw x) w h Q d = d.0
  so_far (cut cause) w h Q d = d
  so_far (miss p) w h Q d = d
  so_far (see k) w h Q d = d.0
  so_far (change g p) w h Q d = d.0
  so_far (tick e p) w h Q d = d.0
  so_far (mark n p) w h Q d = d.0
  so_far (act b fields view k) w h Q d = d.0
  so_far (choose n k) w h Q d = d.0
  so_far (nested t k) w h Q d = d.0

  abbrev pub Told : (Completion Given → World → List Item → Type 0) → Outcome → World → List Item → Type 0
  Told Q (Ends c) w h = E h × (G w h × Q c w h)
  Told Q (Cut cause) w h = E h

  pub told_so_far : (Q : Completion Given → World → List Item → Type 0) (o : Outcome) (w : World) (h : List Item) → Told Q o w h → E h
  told_so_far Q (Ends c) w h d = d.0
  told_so_far Q (Cut cause) w h d = d

  module _ (Starved : Type 0) (step : (t : Task) (w : World) (h : List Item) → G w h → Pre t w h → Tells (machine t) w h (Post t w h)) where
    pub tells : {p : Prog Given} {w v : World} {o : Outcome} (h : List Item) (Q : Completion Given → World → List Item → Type 0) (r : Runs tables legal Starved p w o v) → NothingMissing r → Tells p w h Q → Told Q o v (items_of h r)
    tells h Q Runs.returns m d = d
    tells h Q Runs.throws m d = d
    tells h Q Runs.cuts m d = d
    tells h Q (Runs.misses r) m d = absurd m
    tells h Q (Runs.sees r) m d = tells h Q r m d.1
    tells h Q (Runs.changes {g = g} {w = w} r) m d = tells (with_birth g w h) Q r m d.1
    tells h Q (Runs.writes {e = e} {w = w} l r) m d = tells (Wrote e ∷ h) Q r m d.1
    tells h Q (Runs.is_full l) m d = d.0
    tells h Q (Runs.marks {n = n} r) m d = tells (Between n ∷ h) Q r m d.1
    tells h Q (Runs.does {w = w} a l r) m d = tells h Q r m (d.0, d.1 _ a l)
    tells h Q (Runs.picks i l c r) m d = tells h Q r m (d.0, d.1 i l)
    tells h Q (Runs.calls {t = t} {k = k} {w = w} {u = u} {o1 = Ends c} r1 r) m d =
        let one = tells h (Post t w h) r1 m.0 (step t w h d.1.0 d.1.1.0) in
        tells (items_of h r1) Q r m.1 (d.1.1.1 c u (items_of h r1) one.1.0 one.1.1)
    tells h Q (Runs.calls {t = t} {k = k} {w = w} {u = u} {o1 = Cut cause} r1 r) m d = tells (items_of h r1) Q r m.1 (tells h (Post t w h) r1 m.0 (step t w h d.1.0 d.1.1.0))
    tells h Q (Runs.starves {p = p} {w = w} x) m d = starved Q w h (so_far p w h Q d)
      where
        starved : (Q : Completion Given → World → List Item → Type 0) (w : World) (h : List Item) → E h → E h
        starved Q w h e = e
