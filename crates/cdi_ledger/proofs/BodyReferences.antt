-- A body's locals refer directly to dependents of its own instance alone, and its parameters to what may be given to it.
use Rattle.std.proofs.Common.{ℕ, ◌≡◌, List, ◌∷◌, inl, inr, Option, Some, None, refl, sym, ap, ◌∙◌, subst}
use Rattle.std.specs.Prelude.{option_map}
use Rattle.cdi_store.specs.declared.instance.Instance.{Instance}
use Rattle.cdi_store.specs.declared.instance.Owner.{Owner}
use Rattle.cdi_machine.specs.Tables.{Tables, written_act}
use Rattle.cdi_machine.specs.World.{World, instance_at, at_begin}
use Rattle.cdi_machine.specs.Programs.{Running, Task, Given, Completion, Prog}
use Rattle.cdi_machine.specs.Commands.{Command, task}
use Rattle.cdi_machine.specs.Container.{State, refusal}
use Rattle.cdi_ledger.specs.Stories.{Story}
use Rattle.cdi_machine.specs.Runs.{Legal, Outcome, Ends, Cut, Runs}
use Rattle.cdi_ledger.specs.Ledger.{Item, Wrote, Between, with_birth, items_of}
use Rattle.cdi_ledger.specs.BodyReferences.{OfBody, AtBodies, LooksUpItsOwn, LocalsAreOwn, IsReceivers, ReceivesItsOwn, ParametersAreOwn}
use Rattle.cdi_ledger.proofs.Judge.{Does, sound, guard_of, note_of}
use Rattle.cdi_ledger.proofs.Cores.{Core, core_of, core_at}
use Rattle.cdi_ledger.proofs.Homes.{MayOwn}
use Rattle.cdi_ledger.proofs.Owed.{Ok, Pre, Post}
use Rattle.cdi_ledger.proofs.Fine as fine
use Rattle.cdi_ledger.proofs.Tops.{LeftTidy, command_does}
use Rattle.cdi_ledger.proofs.Settled.{steps, tidy_story, begin_tidy, not_halted}

-- what lives, told by its core
of_core : (w : World) (n : ℕ) (c : Core) → core_at n w.instances ≡ Some c → (o : Instance) × (instance_at w n ≡ Some o) × (core_of o ≡ c)
of_core w n c e = by (instance_at w n) refl e
  where
    by : (x : Option Instance) → instance_at w n ≡ x → option_map core_of x ≡ Some c → (o : Instance) × (instance_at w n ≡ Some o) × (core_of o ≡ c)
    by None q f = absurd (cc)
    by (Some o) q f = (o, q, let y : core_of o ≡ c = cc in y)

receiver : (b : Running) (w : World) (owner : Owner) → MayOwn b.instance owner w → IsReceivers b w owner
receiver b w owner (inl e) = subst (IsReceivers b w) (sym e) IsReceivers.own
receiver b w owner (inr (inl a)) =
    let o = of_core w a.0 a.2.0 a.2.1 in
    subst (IsReceivers b w) (sym a.1) (IsReceivers.product o.1 (ap (λ (c : Core). c.phase) o.2 ∙ a.2.2))
receiver b w owner (inr (inr e)) = subst (IsReceivers b w) (sym e) IsReceivers.temporary

locals_asked : (tables : Tables) (t : Task) (w : World) (h : List Item) → Pre tables t w h → OfBody LooksUpItsOwn t w
locals_asked tables (Task.Acts b) w h q = λ k m p e i. (q.1.1.0 k m e).1 (core_of p) (ap (option_map core_of) i)
locals_asked tables _ w h q = tt

parameters_asked : (tables : Tables) (t : Task) (w : World) (h : List Item) → Pre tables t w h → OfBody ReceivesItsOwn t w
parameters_asked tables (Task.Acts b) w h q = λ k m p e i. receiver b w p.owner ((q.1.1.1 k m e).1 (core_of p) (ap (option_map core_of) i))
parameters_asked tables _ w h q = tt

module _ (tables : Tables) (legal : Legal) (P : Running → World → Type 0) (asked : (t : Task) (w : World) (h : List Item) → Pre tables t w h → OfBody P t w) where
  at_bodies : {p : Prog Given} {w v : World} {o : Outcome} (h : List Item) (Q : Completion Given → World → List Item → Type 0) (r : Runs tables legal ⊥ p w o v) → Does tables (Ok tables) fine.G (Pre tables) Post p w h Q → AtBodies P r
  at_bodies h Q Runs.returns d = tt
  at_bodies h Q Runs.throws d = tt
  at_bodies h Q Runs.cuts d = tt
  at_bodies h Q (Runs.misses r) d = at_bodies h Q r d
  at_bodies h Q (Runs.sees r) d = at_bodies h Q r d
  at_bodies h Q (Runs.changes {g = g} {w = w} r) d = at_bodies (with_birth g w h) Q r (guard_of (Ok tables) g w h d)
  at_bodies h Q (Runs.writes {e = e} {w = w} l r) d = at_bodies (Wrote e ∷ h) Q r (note_of (Ok tables) e w h d.1)
  at_bodies h Q (Runs.is_full l) d = tt
  at_bodies h Q (Runs.marks {n = n} r) d = at_bodies (Between n ∷ h) Q r d
  at_bodies h Q (Runs.does a l r) d = at_bodies h Q r (d.0, d.1 (written_act tables a))
  at_bodies h Q (Runs.picks i l c r) d = at_bodies h Q r (d.0, d.1 i l)
  at_bodies h Q (Runs.calls {t = t} {k = k} {w = w} {u = u} {o1 = Ends c} r1 r) d =
      let s = steps tables legal t w h d.0 d.1 in
      let one = sound tables (Ok tables) fine.G (Pre tables) Post legal (steps tables legal) h (Post t w h) r1 s in
      (asked t w h d.1, (at_bodies h (Post t w h) r1 s, at_bodies (items_of h r1) Q r (d.2 c u (items_of h r1) one.0 one.1)))
  at_bodies h Q (Runs.calls {t = t} {k = k} {w = w} {u = u} {o1 = Cut cause} r1 r) d =
      let s = steps tables legal t w h d.0 d.1 in
      let one = sound tables (Ok tables) fine.G (Pre tables) Post legal (steps tables legal) h (Post t w h) r1 s in
      (asked t w h d.1, (at_bodies h (Post t w h) r1 s, at_bodies (items_of h r1) Q r one.0))
  at_bodies h Q (Runs.starves x) d = elim x [ ]

  in_command : (s : State) (h : List Item) (c : Command) (o : Outcome) (v : World) → Story tables legal s h → refusal tables s c ≡ None → (r : Runs tables legal ⊥ (task c) (at_begin s.world) o v) → AtBodies P r
  in_command s h c o v l q r = at_bodies h (LeftTidy tables) r (command_does tables c (at_begin s.world) h (begin_tidy s.world (tidy_story tables legal l (not_halted s.halted _ _ q))))

pub locals_are_own : (tables : Tables) (legal : Legal) → LocalsAreOwn tables legal
locals_are_own tables legal = in_command tables legal LooksUpItsOwn (locals_asked tables)

pub parameters_are_own : (tables : Tables) (legal : Legal) → ParametersAreOwn tables legal
parameters_are_own tables legal = in_command tables legal ReceivesItsOwn (parameters_asked tables)
