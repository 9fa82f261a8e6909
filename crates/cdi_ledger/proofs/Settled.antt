-- The laws of what commands leave.
use Rattle.std.proofs.Common.{ℕ, zero, suc, ◌≡◌, ◌<◌, List, [], ◌∷◌, ◌⊎◌, inl, inr, Option, Some, None, Bool, true, false, cond, refl, sym, ap, ◌∙◌, subst, arith}
use Rattle.std.specs.Prelude.{nat_lt, nat_eq, option_map}
use Rattle.cdi_base.specs.Maps.{at}
use Rattle.cdi_base.specs.declared.reply.Refusal.{Refusal}
use Rattle.cdi_store.specs.declared.instance.Component.{Component}
use Rattle.cdi_store.specs.declared.instance.Context.{Context}
use Rattle.cdi_store.specs.declared.instance.Context.TheVariants as contexts
use Rattle.cdi_store.specs.declared.instance.Instance.{Instance}
use Rattle.cdi_store.specs.declared.instance.Owner.{Owner}
use Rattle.cdi_store.specs.declared.instance.Owner.TheVariants as owners
use Rattle.cdi_store.specs.declared.instance.Phase.{Phase}
use Rattle.cdi_store.specs.declared.instance.Phase.TheVariants as phases
use Rattle.cdi_store.specs.Live.{Instances}
use Rattle.cdi_store.proofs.Numbers.{equal_or_not}
use Rattle.cdi_contexts.specs.declared.context.Held.TheVariants.{Is}
use Rattle.cdi_contexts.specs.Contexts.{Active, context_at}
use Rattle.cdi_machine.specs.Tables.{Tables}
use Rattle.cdi_machine.specs.World.{World, before_boot, at_begin, instance_at}
use Rattle.cdi_machine.specs.Programs.{Given, Completion, Gave, Threw}
use Rattle.cdi_machine.specs.Commands.{Command, task}
use Rattle.cdi_machine.specs.Runs.{Legal, Outcome, Runs}
use Rattle.cdi_machine.specs.Container.{State, refusal, state_after}
use Rattle.cdi_machine.proofs.Refused.{refused}
use Rattle.cdi_ledger.specs.Ledger.{Item, items_of, Unborn, Lost, fate}
use Rattle.cdi_ledger.specs.Stories.{Story}
use Rattle.cdi_ledger.specs.Whose.{IsIn, IsHeld, DependsOn, StandsAtHome, IsTidy}
use Rattle.cdi_ledger.specs.Ends.{OwnersAreSmaller, IsUnderWay, LeavesTidy, LeavesNothing}
use Rattle.cdi_ledger.proofs.Phases.{phase_at, phase_of}
use Rattle.cdi_ledger.proofs.Plain.{Sane, stands}
use Rattle.cdi_ledger.proofs.Ledgered.{before, at_rest, command_keeps}
use Rattle.cdi_ledger.proofs.Judge.{sound}
use Rattle.cdi_ledger.proofs.Lists.{IsAmong}
use Rattle.cdi_ledger.proofs.Holdings.{AllHeld}
use Rattle.cdi_ledger.proofs.Cores.{Core, core_of, core_at, deps_at, list_of}
use Rattle.cdi_ledger.proofs.Homes.{Inv, HeldIn, Placed}
use Rattle.cdi_ledger.proofs.Spans.{Still, inv_still, rel_still}
use Rattle.cdi_ledger.proofs.Owed.{Ok, Pre, Post}
use Rattle.cdi_ledger.proofs.Fine as fine
use Rattle.cdi_ledger.proofs.Creations.{task_does}
use Rattle.cdi_ledger.proofs.Tops.{Tidy, tidy_then, Nothing, LeftTidy, ShutDown, command_does, shut_does}

-- ---- before the boot, and at the begin of a command

first_tidy : (ticks depth : ℕ) → Tidy (before_boot ticks depth)
first_tidy ticks depth = record {
  inv = record {
    below = λ k c e. absurd (none c e);
    smaller = λ k m c e o. absurd (none c e);
    stack = λ b h. elim h [ inl z ↦ absurd z | inr z ↦ absurd z ];
    depends = λ m k h. absurd h;
    borrowed = λ k h. absurd h;
    held = λ c. free c;
    placed = λ k c e r. absurd (none c e);
    made = λ k x b e. absurd (none _ e);
    one = λ j k x b e f. absurd (none _ e);
    provided = λ n rs i. absurd i;
  };
  bodies = refl;
  targets = refl;
  temporaries = refl;
  ready = λ k c e. absurd (none c e);
}
  where
    none : (c : Core) → ◌≡◌ {A = Option Core} None (Some c) → ⊥
    none c e = cc

    free : (c : Context) → AllHeld (HeldIn (before_boot ticks depth) c) (context_at (before_boot ticks depth).contexts c)
    free contexts.Application = tt
    free (contexts.Request r) = tt
    free (contexts.Session s) = tt

begin_still : (w : World) → Still w (at_begin w)
begin_still w = record { next = refl; bodies = refl; targets = refl; members = refl; provisions = refl; temporaries = refl; core = λ k. refl; deps = λ k. refl; contexts = λ c. refl }

pub begin_tidy : (w : World) → Tidy w → Tidy (at_begin w)
begin_tidy w g = tidy_then w (at_begin w) g (inv_still w (at_begin w) (begin_still w) g.inv) (rel_still w (at_begin w) (begin_still w) g.inv)

pub not_halted : (b : Bool) (r : Refusal) (o : Option Refusal) → cond b (Some r) o ≡ None → b ≡ false
not_halted true r o e = absurd (cc)
not_halted false r o e = refl

module _ (tables : Tables) (legal : Legal) where
  pub steps : (t : _) (w : World) (h : List Item) → Inv w → Pre tables t w h → fine.Doing tables (Rattle.cdi_machine.specs.Machine.machine t) w h (Post t w h)
  steps t w h g q = task_does tables t w h g q

  -- what a command leaves that isn't cut
  tidy_run : (c : Command) (w v : World) (o : Outcome) (h : List Item) (r : Runs tables legal ⊥ (task c) w o v) → Tidy w → Rattle.cdi_machine.specs.Container.is_cut o ≡ false → Tidy v
  tidy_run c w v o h r g e = by o (sound tables (Ok tables) fine.G (Pre tables) Post legal steps h (LeftTidy tables) r (command_does tables c w h g)).1 e
    where
      by : (o : Outcome) → Rattle.cdi_ledger.proofs.Judge.UnlessCut (LeftTidy tables) o v (items_of h r) → Rattle.cdi_machine.specs.Container.is_cut o ≡ false → Tidy v
      by (Outcome.Ends d) q e = q
      by (Outcome.Cut cause) q e = absurd (cc)

  pub tidy_story : {s : State} {h : List Item} → Story tables legal s h → s.halted ≡ false → Tidy s.world
  tidy_story (Story.begins ticks depth) e = first_tidy ticks depth
  tidy_story (Story.refuses {s = s} c r l q) e = refused (λ t. t.halted ≡ false → Tidy t.world) s (tidy_story l) (λ k. begin_tidy s.world (tidy_story l k)) e
  tidy_story (Story.goes {s = s} {h = h} {o = o} {v = v} c l q r) e = tidy_run c (at_begin s.world) v o h r (begin_tidy s.world (tidy_story l (not_halted s.halted _ _ q))) e

  -- where all stand, also behind a command that is cut
  pub inv_story : {s : State} {h : List Item} → Story tables legal s h → Inv s.world
  inv_story (Story.begins ticks depth) = (first_tidy ticks depth).inv
  inv_story (Story.refuses {s = s} c r l q) = refused (λ t. Inv t.world) s (inv_story l) (inv_still s.world (at_begin s.world) (begin_still s.world) (inv_story l))
  inv_story (Story.goes {s = s} {h = h} {o = o} {v = v} c l q r) = (sound tables (Ok tables) fine.G (Pre tables) Post legal steps h (LeftTidy tables) r (command_does tables c (at_begin s.world) h (begin_tidy s.world (tidy_story l (not_halted s.halted _ _ q))))).0

  pub owners_are_smaller : OwnersAreSmaller tables legal
  owners_are_smaller s h l n m o e q = (inv_story l).smaller n m (core_of o) (ap (option_map core_of) e) q

  pub sane_story : (n : ℕ) {s : State} {h : List Item} → Story tables legal s h → Sane n s.world h
  sane_story n (Story.begins ticks depth) = before ticks depth n
  sane_story n (Story.refuses {s = s} {h = h} c r l q) = refused (λ t. Sane n t.world h) s (sane_story n l) (at_rest n s.world h (sane_story n l))
  sane_story n (Story.goes {s = s} {h = h} {o = o} {v = v} c l q r) = command_keeps tables n legal c (at_begin s.world) v o h r (at_rest n s.world h (sane_story n l))

  -- ---- what stands so is not under way

  not_under_way : (n : ℕ) (w : World) (h : List Item) → Sane n w h → Tidy w → IsUnderWay (fate n h) → ⊥
  not_under_way n w h s g u = by (instance_at w n) refl (subst IsUnderWay s.fate u)
    where
      gone : (b : Bool) → IsUnderWay (stands b None) → ⊥
      gone true x = x
      gone false x = x

      over : (b : Bool) (p : Phase) → p ≡ phases.Ready → IsUnderWay (stands b (Some p)) → ⊥
      over b phases.Ready e x = x
      over b phases.New e x = absurd (cc)
      over b phases.Leaving e x = absurd (cc)

      by : (o : Option Instance) → instance_at w n ≡ o → IsUnderWay (stands (nat_lt n w.next) (phase_of (instance_at w n))) → ⊥
      by None e x = gone (nat_lt n w.next) (subst (λ z. IsUnderWay (stands (nat_lt n w.next) (phase_of z))) e x)
      by (Some o) e x = over (nat_lt n w.next) o.phase (g.ready n (core_of o) (ap (option_map core_of) e)) (subst (λ z. IsUnderWay (stands (nat_lt n w.next) (phase_of z))) e x)

  -- ---- where each stands

  core_is : (w : World) (n : ℕ) (o : Instance) → instance_at w n ≡ Some o → core_at n w.instances ≡ Some (core_of o)
  core_is w n o e = ap (option_map core_of) e

  listed : (m : ℕ) (live : Instances) (n : ℕ) → IsIn n (deps_at m live) → DependsOn live m n
  listed m live n h = by (at live m) refl h
    where
      by : (o : Option Instance) → at live m ≡ o → IsIn n (list_of o) → DependsOn live m n
      by None e h = absurd h
      by (Some o) e h = (o, e, h)

  unlisted : (m : ℕ) (live : Instances) (n : ℕ) → DependsOn live m n → IsIn n (deps_at m live)
  unlisted m live n d = subst (λ z. IsIn n (list_of z)) (sym d.1) d.2

  owner_of : (w : World) (n : ℕ) (c : Core) → core_at n w.instances ≡ Some c → (o : Instance) × (instance_at w n ≡ Some o) × (core_of o ≡ c)
  owner_of w n c e = Rattle.cdi_ledger.proofs.Cores.is_there n w.instances c e

  tidy_is : (w : World) → Tidy w → IsTidy w
  tidy_is w g = record {
    ready = λ n o e. g.ready n (core_of o) (core_is w n o e);
    home = λ n o e. home n o.component o.owner (g.inv.placed n (core_of o) (core_is w n o e) (g.ready n (core_of o) (core_is w n o e))) (λ m q. g.inv.smaller n m (core_of o) (core_is w n o e) q);
    held = λ c a b n e f. (let q = held_at c a b n e f in let x = owner_of w n _ q in (x.0, x.1, ap (λ (z : Core). z.component) x.2, ap (λ (z : Core). z.owner) x.2));
    depends = λ m n d. (let q = g.inv.depends m n (unlisted m w.instances n d) in let x = owner_of w n _ q.1 in (x.0, x.1, ap (λ (z : Core). z.owner) x.2));
  }
    where
      home : (n : ℕ) (component : Component) (owner : Owner) → Placed w n component owner → ((m : ℕ) → owner ≡ owners.Instance m → m < n) → StandsAtHome w n component owner
      home n component (owners.Context c) h f = h
      home n component (owners.Instance m) h f = (f m refl, listed m w.instances n h)
      home n component owners.Borrower h f = subst (IsAmong n) g.temporaries h

      held_at : (c : Context) (a : Active) (b n : ℕ) → context_at w.contexts c ≡ Some a → at a.holds b ≡ Some (Is n) → HeldIn w c b n
      held_at c a b n e f = Rattle.cdi_ledger.proofs.Maps.all_at _ a.holds b (Is n) (subst (AllHeld (HeldIn w c)) e (g.inv.held c)) f

  pub leaves_tidy : LeavesTidy tables legal
  leaves_tidy s h l e = let g = tidy_story l e in ((λ n u. not_under_way n s.world h (sane_story n l) g u), tidy_is s.world g)

  -- ---- after a shutdown

  empty_of : (m : Instances) → ((k : ℕ) (c : Core) → core_at k m ≡ Some c → ⊥) → m ≡ []
  empty_of [] f = refl
  empty_of ((k, x) ∷ m) f = absurd (f k (core_of x) (here (equal_or_not k k)))
    where
      here : ((nat_eq k k ≡ true) × (k ≡ k)) ⊎ ((nat_eq k k ≡ false) × (k ≡ k → ⊥)) → option_map core_of (cond (nat_eq k k) (Some x) (at m k)) ≡ Some (core_of x)
      here (inl s) = ap (λ z. option_map core_of (cond z (Some x) (at m k))) s.0
      here (inr s) = absurd (s.1 refl)

  -- nothing is left of what has smaller numbers, so nothing at all
  nothing_left : (w : World) → Nothing tables w → (j k : ℕ) (c : Core) → k < j → core_at k w.instances ≡ Some c → ⊥
  nothing_left w g zero k c l e = omega arith
  nothing_left w g (suc j) k c l e = by c.component c.owner refl (g.tidy.inv.placed k c e (g.tidy.ready k c e)) (λ m d y f. nothing_left w g j m d y f)
    where
      by : (component : Component) (owner : Owner) → c.owner ≡ owner → Placed w k component owner → ((m : ℕ) (d : Core) → m < j → core_at m w.instances ≡ Some d → ⊥) → ⊥
      by component (owners.Context x) o h f = subst (λ z. IsHeld z component k) (g.none x) h
      by component owners.Borrower o h f = subst (IsAmong k) g.tidy.temporaries h
      by component (owners.Instance m) o h f =
          let y = g.tidy.inv.smaller k m c e o in
          let d = listed m w.instances k h in
          f m (core_of d.0) (omega (arith, l, y)) (core_is w m d.0 d.1)

  fate_gone : (n : ℕ) (w : World) (h : List Item) → Sane n w h → w.instances ≡ [] → (fate n h ≡ Unborn) ⊎ (fate n h ≡ Lost)
  fate_gone n w h s e = by (nat_lt n w.next) (s.fate ∙ ap (λ z. stands (nat_lt n w.next) (phase_at n z)) e)
    where
      by : (b : Bool) → fate n h ≡ stands b None → (fate n h ≡ Unborn) ⊎ (fate n h ≡ Lost)
      by true f = inr f
      by false f = inl f

  pub leaves_nothing : LeavesNothing tables legal
  leaves_nothing s h l q d v r =
      let w = at_begin s.world in
      let g : Tidy w = begin_tidy s.world (tidy_story l (not_halted s.halted _ _ q)) in
      let z = (sound tables (Ok tables) fine.G (Pre tables) Post legal steps h (ShutDown tables) r (shut_does tables w h g)).1 in
      let n = command_keeps tables in
      by d z
    where
      by : (d : Completion Given) → ShutDown tables d v (items_of h r) → ((g : Given) × (d ≡ Gave g)) × (v.instances ≡ []) × ((n : ℕ) → (fate n (items_of h r) ≡ Unborn) ⊎ (fate n (items_of h r) ≡ Lost))
      by (Gave x) z =
          let e = empty_of v.instances (λ k c f. nothing_left v z (suc k) k c (omega arith) f) in
          ((x, refl), e, λ n. fate_gone n v (items_of h r) (command_keeps tables n legal Command.Shutdown (at_begin s.world) v (Outcome.Ends d) h r (at_rest n s.world h (sane_story n l))) e)
      by (Threw x) z = absurd z
