-- A field's direct reference is to a dependent of its own.
use Rattle.std.proofs.Common.{ℕ, ◌+◌, ◌≡◌, ◌<◌, List, [], ◌∷◌, ◌++◌, inl, inr, Option, Some, None, Bool, true, false, cond, refl, sym, ap, ◌∙◌, subst, arith}
use Rattle.std.specs.Prelude.{nat_eq, option_map}
use Rattle.cdi_base.specs.declared.entry.Entry.TheVariants as entries
use Rattle.cdi_store.specs.declared.instance.Component.{Component}
use Rattle.cdi_store.specs.declared.instance.Owner.{Owner}
use Rattle.cdi_store.specs.declared.instance.Owner.TheVariants as owners
use Rattle.cdi_store.specs.declared.instance.Instance.{Instance}
use Rattle.cdi_store.specs.declared.references.Reference.{Reference}
use Rattle.cdi_store.specs.declared.references.Reference.TheVariants.{Direct}
use Rattle.cdi_store.specs.Live.{Instances, newborn, with_newborn, with_ready, with_leaving, for_owner, with_dependent, without_dependent}
use Rattle.cdi_store.proofs.Numbers.{equal_or_not}
use Rattle.cdi_base.specs.Maps.{at, adjusted, put, without}
use Rattle.cdi_machine.specs.Words.{Name, Fields}
use Rattle.cdi_machine.specs.Tables.{Tables}
use Rattle.cdi_machine.specs.World.{World, Change, after_change, with_entry, instance_at, at_begin, for_instance, with_owned, without_owned, without_making, with_instances}
use Rattle.cdi_machine.specs.Programs.{Task, Completion, Prog, ret, throw, cut, miss, see, change, tick, mark, act, choose, nested, candidates}
use Rattle.cdi_machine.specs.Commands.{Command, task}
use Rattle.cdi_machine.specs.Machine.{machine}
use Rattle.cdi_machine.specs.Runs.{Legal, Outcome, Runs}
use Rattle.cdi_machine.specs.Container.{State}
use Rattle.cdi_ledger.specs.Ledger.{Item, Wrote, Between, with_birth}
use Rattle.cdi_ledger.specs.Stories.{Story}
use Rattle.cdi_ledger.specs.Ends.{RefersOwn}
use Rattle.cdi_ledger.proofs.Judge.{Does, sound, Guard, guard_map, note_map}
use Rattle.cdi_ledger.proofs.Plain.{Sane, Kept, standing}
use Rattle.cdi_ledger.proofs.Ledgered as ledgered
use Rattle.cdi_ledger.proofs.Maps.{at_adjusted, at_gone, at_left, at_added, at_before, put_at}
use Rattle.cdi_ledger.proofs.Cores.{core_of, core_same, core_before}
use Rattle.cdi_ledger.proofs.Owed.{Ok, RefersTo, IsOwned, Pre}
use Rattle.cdi_ledger.proofs.Tops.{Tidy, LeftTidy, command_does}
use Rattle.cdi_ledger.proofs.Settled.{tidy_story, sane_story, begin_tidy, not_halted}
use Rattle.cdi_ledger.proofs.Nesting.{Both, BothPost, pair, both_do}
use Rattle.cdi_ledger.proofs.Births.{Alike, alike_change}

abbrev Refs : World → Type 0
Refs w = (n : ℕ) (o : Instance) (field : Name) (m : ℕ) → at w.instances n ≡ Some o → at o.references field ≡ Some (Direct m) → IsOwned (owners.Instance n) m w

-- ---- instances with the references that they had

abbrev Had : Instances → Instances → Type 0
Had a b = (k : ℕ) (o : Instance) → at b k ≡ Some o → (p : Instance) × (at a k ≡ Some p) × (p.references ≡ o.references)

had_self : (a : Instances) → Had a a
had_self a k o e = (o, e, refl)

had_then : (a b c : Instances) → Had a b → Had b c → Had a c
had_then a b c f g k o e =
    let p = g k o e in
    let q = f k p.0 p.1 in
    (q.0, q.1, q.2 ∙ p.2)

had_adjusted : (a : Instances) (n : ℕ) (f : Instance → Instance) → ((o : Instance) → (f o).references ≡ o.references) → Had a (adjusted n f a)
had_adjusted a n f s k o e = by (nat_eq k n) (at a k) refl (sym (at_adjusted a n f k) ∙ e)
  where
    by : (b : Bool) (x : Option Instance) → at a k ≡ x → option_map (λ y. cond b (f y) y) x ≡ Some o → (p : Instance) × (at a k ≡ Some p) × (p.references ≡ o.references)
    by b None q z = absurd (cc)
    by true (Some p) q z = let y : f p ≡ o = cc in (p, q, sym (s p) ∙ ap (λ (u : Instance). u.references) y)
    by false (Some p) q z = let y : p ≡ o = cc in (p, q, ap (λ (u : Instance). u.references) y)

had_without : (a : Instances) (n : ℕ) → Had a (without n a)
had_without a n k o e = elim (equal_or_not k n) [
  | inl s ↦ let q : ◌≡◌ {A = Option Instance} None (Some o) = sym (at_gone a n) ∙ subst (λ z. at (without n a) z ≡ Some o) s.1 e in absurd (cc)
  | inr s ↦ (o, sym (at_left a n k s.1) ∙ e, refl)
]

had_dependent : (a : Instances) (n : ℕ) (owner : Owner) → Had a (with_dependent n owner a)
had_dependent a n (owners.Instance m) = had_adjusted a m _ (λ o. refl)
had_dependent a n (owners.Context c) = had_self a
had_dependent a n owners.Borrower = had_self a

had_less : (a : Instances) (n : ℕ) (owner : Owner) → Had a (without_dependent n owner a)
had_less a n (owners.Instance m) = had_adjusted a m _ (λ o. refl)
had_less a n (owners.Context c) = had_self a
had_less a n owners.Borrower = had_self a

had_ready : (a : Instances) (n : ℕ) → Had a (with_ready n a)
had_ready a n = had_then a (for_owner (at a n) (with_dependent n) a) (with_ready n a) (by (at a n)) (had_adjusted (for_owner (at a n) (with_dependent n) a) n _ (λ o. refl))
  where
    by : (x : Option Instance) → Had a (for_owner x (with_dependent n) a)
    by None = had_self a
    by (Some o) = had_dependent a n o.owner

had_leaving : (a : Instances) (n : ℕ) → Had a (with_leaving n a)
had_leaving a n = had_then a (for_owner (at a n) (without_dependent n) a) (with_leaving n a) (by (at a n)) (had_adjusted (for_owner (at a n) (without_dependent n) a) n _ (λ o. refl))
  where
    by : (x : Option Instance) → Had a (for_owner x (without_dependent n) a)
    by None = had_self a
    by (Some o) = had_less a n o.owner

refs_had : (w v : World) → Alike w v → Had w.instances v.instances → Refs w → Refs v
refs_had w v a f r n o field m e z =
    let p = f n o e in
    let q = r n p.0 field m p.1 (subst (λ u. at u field ≡ Some (Direct m)) (sym p.2) z) in
    (subst (λ u. m < u) (sym a.next) q.0, λ c y. (let d = a.was m c y in sym d.3 ∙ q.1 d.0 d.1))

-- ---- an instance begins

pub at_front : (a : Instances) (n k : ℕ) (x o : Instance) → at a k ≡ Some o → at (a ++ (n, x) ∷ []) k ≡ Some o
at_front [] n k x o e = absurd (cc)
at_front (p ∷ a) n k x o e = by (nat_eq k p.0) (λ q. at_front a n k x o q) e
  where
    by : (b : Bool) → (at a k ≡ Some o → at (a ++ (n, x) ∷ []) k ≡ Some o) → cond b (Some p.1) (at a k) ≡ Some o → cond b (Some p.1) (at (a ++ (n, x) ∷ []) k) ≡ Some o
    by true f q = q
    by false f q = f q

refs_born : (w : World) (component : Component) (owner : Owner) (fields : Fields) → Refs w → Refs (record w { instances = with_newborn w.next component owner fields w.instances; next = w.next + 1 })
refs_born w component owner fields r n o field m e z = owned (old (at w.instances n) refl)
  where
    x : Instance
    x = newborn component owner fields

    old : (y : Option Instance) → at w.instances n ≡ y → IsOwned (owners.Instance n) m w
    old (Some p) q = let u : Some p ≡ Some o = sym (at_front w.instances w.next n (newborn component owner fields) p q) ∙ e in let v : p ≡ o = cc in r n p field m q (subst (λ t. at t.references field ≡ Some (Direct m)) (sym v) z)
    old None q = absurd (elim (equal_or_not n w.next) [
      | inl s ↦ new (subst (λ t. at (w.instances ++ (t, newborn component owner fields) ∷ []) n ≡ Some o) (sym s.1) e)
      | inr s ↦ let u : ◌≡◌ {A = Option Instance} None (Some o) = sym q ∙ (sym (at_before w.instances w.next n (newborn component owner fields) s.1) ∙ e) in cc
    ])
      where
        new : at (w.instances ++ (n, newborn component owner fields) ∷ []) n ≡ Some o → ⊥
        new f =
            let u : Some (newborn component owner fields) ≡ Some o = sym (at_added w.instances n (newborn component owner fields) q) ∙ f in
            let v : newborn component owner fields ≡ o = cc in
            let t : ◌≡◌ {A = Option Reference} None (Some (Direct m)) = subst (λ t. at t.references field ≡ Some (Direct m)) (sym v) z in
            cc

    owned : IsOwned (owners.Instance n) m w → IsOwned (owners.Instance n) m (record w { instances = with_newborn w.next component owner fields w.instances; next = w.next + 1 })
    owned q = (let l = q.0 in omega arith, λ c y. q.1 c (sym (core_before w.instances w.next m (newborn component owner fields) (λ s. let l = q.0 in omega (arith, s))) ∙ y))

-- ---- a field gets a reference

refs_given : (w : World) (n : ℕ) (field : Name) (x : Reference) → Refs w → RefersTo (owners.Instance n) x w → Refs (after_change (Change.Refer n field x) w)
refs_given w n field x r ok k o f m e z = owned (by (nat_eq k n) refl (at w.instances k) refl (sym (at_adjusted w.instances n _ k) ∙ e))
  where
    owned : IsOwned (owners.Instance k) m w → IsOwned (owners.Instance k) m (after_change (Change.Refer n field x) w)
    owned q = (q.0, λ c y. q.1 c (sym (core_same w.instances n _ (λ o. refl) m) ∙ y))

    given : (p : Instance) → k ≡ n → at w.instances k ≡ Some p → (b : Bool) → cond b (Some x) (at p.references f) ≡ Some (Direct m) → IsOwned (owners.Instance k) m w
    given p s q true y = subst (λ u. IsOwned (owners.Instance u) m w) (sym s) (ok m (let u : x ≡ Direct m = cc in u))
    given p s q false y = r k p f m q y

    by : (b : Bool) → nat_eq k n ≡ b → (y : Option Instance) → at w.instances k ≡ y → option_map (λ (o : Instance). cond b (record o { references = put field x o.references }) o) y ≡ Some o → IsOwned (owners.Instance k) m w
    by b s None q t = absurd (cc)
    by false s (Some p) q t = let u : p ≡ o = cc in r k p f m q (subst (λ v. at v.references f ≡ Some (Direct m)) (sym u) z)
    by true s (Some p) q t =
        let u : record p { references = put field x p.references } ≡ o = cc in
        let v : at (put field x p.references) f ≡ Some (Direct m) = subst (λ v. at v.references f ≡ Some (Direct m)) (sym u) z in
        given p (Rattle.cdi_ledger.proofs.Phases.eq_true k n s) q (nat_eq f field) (sym (put_at p.references field x f) ∙ v)

-- ---- each change

refs_change : (tables : Tables) (h : List Item) (g : Change) (w : World) (X : Type 0) → Refs w → Guard (Ok tables) g w h X → Refs (after_change g w)
refs_change tables h (Change.Make component (owners.Context c) fields) w X r x = refs_born w component (owners.Context c) fields r
refs_change tables h (Change.Make component (owners.Instance m) fields) w X r x = refs_born w component (owners.Instance m) fields r
refs_change tables h (Change.Make component owners.Borrower fields) w X r x = refs_born w component owners.Borrower fields r
refs_change tables h (Change.Settle n) w X r x = refs_had w (after_change (Change.Settle n) w) (alike_change (Change.Settle n) w (Unit {0}) tt).0 (by (instance_at w n)) r
  where
    owned : (component : Component) (owner : Owner) → Had w.instances (with_owned n component owner (with_instances (with_ready n) w)).instances
    owned component (owners.Context c) = had_ready w.instances n
    owned component (owners.Instance m) = had_ready w.instances n
    owned component owners.Borrower = had_ready w.instances n

    by : (o : Option Instance) → Had w.instances (for_instance w o (λ o. with_owned n o.component o.owner (with_instances (with_ready n) w))).instances
    by None = had_self w.instances
    by (Some o) = owned o.component o.owner
refs_change tables h (Change.Discard n) w X r x = refs_had w (after_change (Change.Discard n) w) (alike_change (Change.Discard n) w (Unit {0}) tt).0 (by (instance_at w n)) r
  where
    owned : (component : Component) (owner : Owner) → Had w.instances (without_making component owner (with_instances (without n) w)).instances
    owned component (owners.Context c) = had_without w.instances n
    owned component (owners.Instance m) = had_without w.instances n
    owned component owners.Borrower = had_without w.instances n

    by : (o : Option Instance) → Had w.instances (for_instance w o (λ o. without_making o.component o.owner (with_instances (without n) w))).instances
    by None = had_self w.instances
    by (Some o) = owned o.component o.owner
refs_change tables h (Change.Leave n) w X r x = refs_had w (after_change (Change.Leave n) w) (alike_change (Change.Leave n) w (Unit {0}) tt).0 (by (instance_at w n)) r
  where
    owned : (component : Component) (owner : Owner) → Had w.instances (without_owned n component owner (with_instances (with_leaving n) w)).instances
    owned component (owners.Context c) = had_leaving w.instances n
    owned component (owners.Instance m) = had_leaving w.instances n
    owned component owners.Borrower = had_leaving w.instances n

    by : (o : Option Instance) → Had w.instances (for_instance w o (λ o. without_owned n o.component o.owner (with_instances (with_leaving n) w))).instances
    by None = had_self w.instances
    by (Some o) = owned o.component o.owner
refs_change tables h (Change.Remove n) w X r x = refs_had w (after_change (Change.Remove n) w) (alike_change (Change.Remove n) w (Unit {0}) tt).0 (had_without w.instances n) r
refs_change tables h (Change.Assign m field v) w X r x = refs_had w (after_change (Change.Assign m field v) w) (alike_change (Change.Assign m field v) w (Unit {0}) tt).0 (had_adjusted w.instances m _ (λ o. refl)) r
refs_change tables h (Change.Hold m v) w X r x = refs_had w (after_change (Change.Hold m v) w) (alike_change (Change.Hold m v) w (Unit {0}) tt).0 (had_adjusted w.instances m _ (λ o. refl)) r
refs_change tables h (Change.Refer m field y) w X r x = refs_given w m field y r x.0
refs_change tables h _ w X r x = r

-- ---- all tasks

module _ (tables : Tables) where
  abbrev RG : World → List Item → Type 0
  RG w h = Both tables w h × Refs w

  with_refs : {A : Type 0} (p : Prog A) (w : World) (h : List Item) (Q : Completion A → World → List Item → Type 0) → Does tables (Ok tables) (Both tables) (Pre tables) (BothPost tables) p w h Q → Refs w → Does tables (Ok tables) RG (Pre tables) (BothPost tables) p w h Q
  with_refs (ret a) w h Q d e = ((d.0, e), d.1)
  with_refs (throw x) w h Q d e = ((d.0, e), d.1)
  with_refs (cut cause) w h Q d e = (d, e)
  with_refs (miss p) w h Q d e = with_refs p w h Q d e
  with_refs (see k) w h Q d e = with_refs (k tables w) w h Q d e
  with_refs (change x p) w h Q d e = guard_map (Ok tables) x w h (λ y. with_refs p (after_change x w) (with_birth x w h) Q y (refs_change tables h x w _ e d)) d
  with_refs (tick x p) w h Q d e = ((d.0, e), note_map (Ok tables) x w h (λ y. with_refs p (with_entry x w) (Wrote x ∷ h) Q y e) d.1)
  with_refs (mark m p) w h Q d e = with_refs p w (Between m ∷ h) Q d e
  with_refs (act b fields view k) w h Q d e = ((d.0, e), λ a. with_refs (k a) (with_entry (entries.Did a) w) (Wrote (entries.Did a) ∷ h) Q (d.1 a) e)
  with_refs (choose m k) w h Q d e = ((d.0, e), λ i l. with_refs (k i) (with_entry (entries.Pick (candidates m) i) w) (Wrote (entries.Pick (candidates m) i) ∷ h) Q (d.1 i l) e)
  with_refs (nested t k) w h Q d e = ((d.0, e), d.1, λ c v j g z. with_refs (k c) v j Q (d.2 c v j g.0 z) g.1)

  all_refer : (t : Task) (w : World) (h : List Item) → RG w h → Pre tables t w h → Does tables (Ok tables) RG (Pre tables) (BothPost tables) (machine t) w h (BothPost tables t w h)
  all_refer t w h g q = with_refs (machine t) w h (BothPost tables t w h) (both_do tables t w h g.0 q) g.1

  module _ (legal : Legal) where
    run_refers : (c : Command) (w v : World) (o : Outcome) (h : List Item) (r : Runs tables legal ⊥ (task c) w o v) → Tidy w → ((n : ℕ) → Sane n w h) → Refs w → Refs v
    run_refers c w v o h r g s e =
        (sound tables (Ok tables) RG (Pre tables) (BothPost tables) legal all_refer h _ r
        (with_refs (task c) w h _ (pair tables (task c) w h (LeftTidy tables) (λ n c v k. Kept (standing n w) (standing n v)) (command_does tables c w h g) (λ n. ledgered.command_does tables n c w h (s n))) e)).0.1

    refs_story : {s : State} {h : List Item} → Story tables legal s h → Refs s.world
    refs_story (Story.begins ticks depth) = λ n o field m e z. absurd (cc)
    refs_story (Story.refuses {s = s} {h = h} c r l q) = Rattle.cdi_machine.proofs.Refused.refused (λ t. Refs t.world) s (refs_story l) (refs_story l)
    refs_story (Story.goes {s = s} {h = h} {o = o} {v = v} c l q r) =
        run_refers c (at_begin s.world) v o h r (begin_tidy s.world (tidy_story tables legal l (not_halted s.halted _ _ q))) (λ n. ledgered.at_rest n s.world h (sane_story tables legal n l)) (refs_story l)

    pub refers_own : RefersOwn tables legal
    refers_own s h l n m o p field e f q = (refs_story l n o field m e f).1 (core_of p) (ap (option_map core_of) q)
