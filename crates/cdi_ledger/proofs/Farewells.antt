-- What runs on an instance whose destruction has begun: its pre-destroy callbacks, and methods that its own body calls.
use Rattle.std.proofs.Common.{ℕ, ◌≡◌, List, [], ◌∷◌, ◌++◌, inl, inr, Option, Some, None, Bool, true, false, refl, sym, ap, ◌∙◌, subst}
use Rattle.std.specs.Prelude.{nat_eq, nat_lt, option_map, map}
use Rattle.cdi_base.specs.declared.entry.Entry.{Entry}
use Rattle.cdi_base.specs.declared.entry.Entry.TheVariants as entries
use Rattle.cdi_base.specs.declared.place.Place.{Place}
use Rattle.cdi_store.specs.declared.instance.Component.{Component}
use Rattle.cdi_store.specs.declared.instance.Component.TheVariants as components
use Rattle.cdi_store.specs.declared.instance.Owner.{Owner}
use Rattle.cdi_store.specs.declared.instance.Owner.TheVariants as owners
use Rattle.cdi_store.specs.declared.instance.Instance.{Instance}
use Rattle.cdi_store.specs.declared.instance.Phase.TheVariants as phases
use Rattle.cdi_store.specs.Live.{Instances, with_ready, with_leaving}
use Rattle.cdi_store.proofs.Numbers.{equal_or_not}
use Rattle.cdi_base.specs.Maps.{at, without}
use Rattle.cdi_machine.specs.Tables.{Tables, Code, Managed}
use Rattle.cdi_machine.specs.World.{World, Change, Invocation, after_change, with_entry, instance_at, at_begin, for_instance, with_owned, without_owned, without_making, with_instances, on_top, below}
use Rattle.cdi_machine.specs.Programs.{Task, Completion, Prog, ret, throw, cut, miss, see, change, tick, mark, act, choose, nested, candidates}
use Rattle.cdi_machine.specs.Commands.{Command, task}
use Rattle.cdi_machine.specs.Machine.{machine}
use Rattle.cdi_machine.specs.Runs.{Legal, Outcome, Runs}
use Rattle.cdi_machine.specs.Container.{State}
use Rattle.cdi_ledger.specs.Ledger.{Item, Wrote, Between, Born, with_birth, items_of, Fate, Unborn, Made, Readied, Ended, Left, Lost, Wrong, fate, if_is, by_run, InOrder}
use Rattle.cdi_ledger.specs.Stories.{Story}
use Rattle.cdi_ledger.specs.Whose.{IsIn}
use Rattle.cdi_ledger.specs.Ends.{Each, IsEnding, IsOfClass, IsFarewell, BodiesAreFarewells, BodiesAreFarewellsIfShort, IsAlive, IsOnLiving}
use Rattle.cdi_ledger.proofs.Judge.{Does, sound, Guard, guard_map, Note, note_map}
use Rattle.cdi_ledger.proofs.Phases.{phase_at, eq_true, eq_same}
use Rattle.cdi_ledger.proofs.Plain.{Sane}
use Rattle.cdi_ledger.proofs.Ledgered as ledgered
use Rattle.cdi_ledger.proofs.Maps.{at_added, at_before}
use Rattle.cdi_ledger.proofs.Cores.{Core, core_of, core_at, with_phase, when, core_same, core_ready, core_leaving, core_gone, core_left}
use Rattle.cdi_ledger.proofs.Homes.{targets}
use Rattle.cdi_ledger.proofs.Owed.{Ok, AreParting, IsMember, MayRun, Pre}
use Rattle.cdi_ledger.proofs.Tops.{Tidy}
use Rattle.cdi_ledger.proofs.Settled.{tidy_story, sane_story, begin_tidy, not_halted}
use Rattle.cdi_ledger.proofs.Nesting.{BothPost, ending_leaving, leaving_core}
use Rattle.cdi_ledger.proofs.Births.{Known, KG, all_born, born_command, known_story, run_known}
use Rattle.cdi_ledger.proofs.Referred.{at_front}
use Rattle.cdi_ledger.proofs.Fronts.{anything, also_short}

-- ---- what is leaving afterwards was

abbrev WasLeaving : Instances → ℕ → Core → Type 0
WasLeaving a k c = (d : Core) × (core_at k a ≡ Some d) × (d.phase ≡ phases.Leaving) × (d.component ≡ c.component)

was_same : (a : Instances) (k : ℕ) (c : Core) (x : Option Core) → x ≡ core_at k a → x ≡ Some c → c.phase ≡ phases.Leaving → WasLeaving a k c
was_same a k c x e f l = (c, sym e ∙ f, l, refl)

was_readied : (a : Instances) (n k : ℕ) (c : Core) → core_at k (with_ready n a) ≡ Some c → c.phase ≡ phases.Leaving → WasLeaving a k c
was_readied a n k c e l = by (nat_eq k n) (core_at k a) refl (sym (core_ready n a k) ∙ e)
  where
    by : (b : Bool) (o : Option Core) → core_at k a ≡ o → when b (with_phase phases.Ready) o ≡ Some c → WasLeaving a k c
    by true None q z = absurd (cc)
    by false None q z = absurd (cc)
    by true (Some d) q z = let y : with_phase phases.Ready d ≡ c = cc in let t : phases.Ready ≡ phases.Leaving = ap (λ (u : Core). u.phase) y ∙ l in absurd (cc)
    by false (Some d) q z = let y : d ≡ c = cc in (d, q, ap (λ (u : Core). u.phase) y ∙ l, ap (λ (u : Core). u.component) y)

was_left : (a : Instances) (n k : ℕ) (c : Core) → (k ≡ n → ⊥) → core_at k (with_leaving n a) ≡ Some c → c.phase ≡ phases.Leaving → WasLeaving a k c
was_left a n k c d e l = by (nat_eq k n) refl (core_at k a) refl (sym (core_leaving n a k) ∙ e)
  where
    by : (b : Bool) → nat_eq k n ≡ b → (o : Option Core) → core_at k a ≡ o → when b (with_phase phases.Leaving) o ≡ Some c → WasLeaving a k c
    by true s o q z = absurd (d (eq_true k n s))
    by false s None q z = absurd (cc)
    by false s (Some d) q z = let y : d ≡ c = cc in (d, q, ap (λ (u : Core). u.phase) y ∙ l, ap (λ (u : Core). u.component) y)

was_kept : (a : Instances) (n k : ℕ) (c : Core) → core_at k (without n a) ≡ Some c → c.phase ≡ phases.Leaving → WasLeaving a k c
was_kept a n k c e l = elim (equal_or_not k n) [
  | inl s ↦ let q : ◌≡◌ {A = Option Core} None (Some c) = sym (core_gone a n) ∙ subst (λ z. core_at z (without n a) ≡ Some c) s.1 e in absurd (cc)
  | inr s ↦ (c, sym (core_left a n k s.1) ∙ e, l, refl)
]

was_before : (a : Instances) (n k : ℕ) (x : Instance) (c : Core) → x.phase ≡ phases.New → core_at k (a ++ (n, x) ∷ []) ≡ Some c → c.phase ≡ phases.Leaving → WasLeaving a k c
was_before a n k x c new e l = old (at a k) refl
  where
    old : (y : Option Instance) → at a k ≡ y → WasLeaving a k c
    old (Some p) q = (c, ap (option_map core_of) q ∙ (sym (ap (option_map core_of) (at_front a n k x p q)) ∙ e), l, refl)
    old None q = elim (equal_or_not k n) [
      | inl s ↦ (let f : Some (core_of x) ≡ Some c = sym (ap (option_map core_of) (at_added a k x q)) ∙ subst (λ z. core_at k (a ++ (z, x) ∷ []) ≡ Some c) (sym s.1) e in
          let y : core_of x ≡ c = cc in
          let t : phases.New ≡ phases.Leaving = sym new ∙ (ap (λ (u : Core). u.phase) y ∙ l) in absurd (cc))
      | inr s ↦ (let f : ◌≡◌ {A = Option Core} None (Some c) = sym (ap (option_map core_of) q) ∙ (sym (ap (option_map core_of) (at_before a n k x s.1)) ∙ e) in absurd (cc))
    ]

-- ---- what is alive

living : (h : List Item) → InOrder h → Each IsOnLiving h
living [] q = tt
living (x ∷ h) q = (by x q, living h (ledgered.shorter x h q))
  where
    over : (f : Fate) (b : Bool) → b ≡ true → (if_is b (by_run f) f ≡ Wrong → ⊥) → IsAlive f
    over Made b e r = tt
    over Readied b e r = tt
    over Ended b e r = tt
    over Left b e r = tt
    over Unborn b e r = absurd (r (ap (λ z. if_is z Wrong Unborn) e))
    over Lost b e r = absurd (r (ap (λ z. if_is z Wrong Lost) e))
    over Wrong b e r = absurd (r (ap (λ z. if_is z Wrong Wrong) e))

    by : (x : Item) → InOrder (x ∷ h) → IsOnLiving x h
    by (Wrote (entries.Run n place)) q = over (fate n h) (nat_eq n n) (eq_same n) (q.each_way n)
    by _ q = tt

-- ---- the invocations

module _ (tables : Tables) where
  abbrev pub AllParted : Instances → List Invocation → Type 0
  AllParted a [] = Unit {0}
  AllParted a (v ∷ vs) = ((c : Core) → core_at v.target a ≡ Some c → c.phase ≡ phases.Leaving → AreParting tables c v.members) × AllParted a vs

  abbrev pub Parted : World → Type 0
  Parted w = AllParted w.instances w.invocations

  alike : (c d : Core) (members : List Code) → d.component ≡ c.component → AreParting tables d members → AreParting tables c members
  alike c d members e p = record { index = p.index; is = sym e ∙ p.is; bean = p.bean; known = p.known; class = p.class; kind = p.kind; same = p.same; all = p.all }

  parted_map : (a b : Instances) (vs : List Invocation) → ((k : ℕ) (c : Core) → IsIn k (targets vs) → core_at k b ≡ Some c → c.phase ≡ phases.Leaving → WasLeaving a k c) → AllParted a vs → AllParted b vs
  parted_map a b [] f p = tt
  parted_map a b (v ∷ vs) f p = (
    (λ c e l. let d = f v.target c (inl refl) e l in alike c d.0 v.members d.3 (p.0 d.0 d.1 d.2)),
    parted_map a b vs (λ k c i. f k c (inr i)) p.1,
  )

  parted_on_top : (a : Instances) (f : Invocation → Invocation) → ((v : Invocation) → (f v).target ≡ v.target) → ((v : Invocation) → (f v).members ≡ v.members) → (vs : List Invocation) → AllParted a vs → AllParted a (on_top f vs)
  parted_on_top a f t m [] p = tt
  parted_on_top a f t m (v ∷ vs) p = ((λ c e l. subst (AreParting tables c) (sym (m v)) (p.0 c (subst (λ z. core_at z a ≡ Some c) (t v) e) l)), p.1)

  parted_below : (a : Instances) (vs : List Invocation) → AllParted a vs → AllParted a (below vs)
  parted_below a [] p = p
  parted_below a (v ∷ vs) p = p.1

  parted_enter : (a : Instances) (v : Invocation) (vs : List Invocation) → ((c : Core) → core_at v.target a ≡ Some c → c.phase ≡ phases.Leaving → AreParting tables c v.members) → AllParted a vs → AllParted a (v ∷ vs)
  parted_enter a v vs f p = (f, p)

  pub parted_change : (h : List Item) (g : Change) (w : World) (X : Type 0) → Parted w → Guard (Ok tables) g w h X → Parted (after_change g w)
  parted_change h (Change.Make component (owners.Context c) fields) w X p x = parted_map w.instances _ w.invocations (λ k c i e l. was_before w.instances w.next k _ c refl e l) p
  parted_change h (Change.Make component (owners.Instance m) fields) w X p x = parted_map w.instances _ w.invocations (λ k c i e l. was_before w.instances w.next k _ c refl e l) p
  parted_change h (Change.Make component owners.Borrower fields) w X p x = parted_map w.instances _ w.invocations (λ k c i e l. was_before w.instances w.next k _ c refl e l) p
  parted_change h (Change.Settle n) w X p x = by (instance_at w n)
    where
      readied : AllParted (with_ready n w.instances) w.invocations
      readied = parted_map w.instances (with_ready n w.instances) w.invocations (λ k c i e l. was_readied w.instances n k c e l) p

      owned : (component : Component) (owner : Owner) → Parted (with_owned n component owner (with_instances (with_ready n) w))
      owned component (owners.Context c) = readied
      owned component (owners.Instance m) = readied
      owned component owners.Borrower = readied

      by : (o : Option Instance) → Parted (for_instance w o (λ o. with_owned n o.component o.owner (with_instances (with_ready n) w)))
      by None = p
      by (Some o) = owned o.component o.owner
  parted_change h (Change.Discard n) w X p x = by (instance_at w n)
    where
      lost : AllParted (without n w.instances) w.invocations
      lost = parted_map w.instances (without n w.instances) w.invocations (λ k c i e l. was_kept w.instances n k c e l) p

      owned : (component : Component) (owner : Owner) → Parted (without_making component owner (with_instances (without n) w))
      owned component (owners.Context c) = lost
      owned component (owners.Instance m) = lost
      owned component owners.Borrower = lost

      by : (o : Option Instance) → Parted (for_instance w o (λ o. without_making o.component o.owner (with_instances (without n) w)))
      by None = p
      by (Some o) = owned o.component o.owner
  parted_change h (Change.Leave n) w X p x = by (instance_at w n)
    where
      left : AllParted (with_leaving n w.instances) w.invocations
      left = parted_map w.instances (with_leaving n w.instances) w.invocations (λ k c i e l. was_left w.instances n k c (λ s. x.0 (inr (subst (λ z. IsIn z (targets w.invocations)) s i))) e l) p

      owned : (component : Component) (owner : Owner) → Parted (without_owned n component owner (with_instances (with_leaving n) w))
      owned component (owners.Context c) = left
      owned component (owners.Instance m) = left
      owned component owners.Borrower = left

      by : (o : Option Instance) → Parted (for_instance w o (λ o. without_owned n o.component o.owner (with_instances (with_leaving n) w)))
      by None = p
      by (Some o) = owned o.component o.owner
  parted_change h (Change.Remove n) w X p x = parted_map w.instances (without n w.instances) w.invocations (λ k c i e l. was_kept w.instances n k c e l) p
  parted_change h (Change.Assign m field v) w X p x = parted_map w.instances _ w.invocations (λ k c i e l. was_same w.instances k c _ (core_same w.instances m _ (λ o. refl) k) e l) p
  parted_change h (Change.Refer m field v) w X p x = parted_map w.instances _ w.invocations (λ k c i e l. was_same w.instances k c _ (core_same w.instances m _ (λ o. refl) k) e l) p
  parted_change h (Change.Hold m v) w X p x = parted_map w.instances _ w.invocations (λ k c i e l. was_same w.instances k c _ (core_same w.instances m _ (λ o. refl) k) e l) p
  parted_change h (Change.Enter v) w X p x = parted_enter w.instances v w.invocations x.0.0 p
  parted_change h (Change.Provide rs) w X p x = parted_on_top w.instances _ (λ v. refl) (λ v. refl) w.invocations p
  parted_change h (Change.Replace vs) w X p x = parted_on_top w.instances _ (λ v. refl) (λ v. refl) w.invocations p
  parted_change h (Change.Keep key v) w X p x = parted_on_top w.instances _ (λ v. refl) (λ v. refl) w.invocations p
  parted_change h Change.Reach w X p x = parted_on_top w.instances _ (λ v. refl) (λ v. refl) w.invocations p
  parted_change h Change.Exit w X p x = parted_below w.instances w.invocations p
  parted_change h _ w X p x = p

  -- ---- a body runs

  of_class : (n : ℕ) (c : Core) (w : World) (h : List Item) → Known tables w h → core_at n w.instances ≡ Some c → (index : ℕ) → c.component ≡ components.Bean index → (bean : _) → tables.bean index ≡ Some bean → (class : Managed) → bean.kind ≡ Rattle.cdi_machine.specs.Tables.Kind.Class class → IsOfClass tables h n class
  of_class n c w h k e index is bean known class kind = record { index = index; owner = c.owner; born = subst (λ z. IsIn (Born n z c.owner) h) is (k.lives n c e); bean = bean; known = known; is = kind }

  in_member : (n : ℕ) (place : Place) (a : Instances) (vs : List Invocation) (c : Core) → AllParted a vs → core_at n a ≡ Some c → c.phase ≡ phases.Leaving → IsMember n place vs → (ms : List Code) × ((p : AreParting tables c ms) × IsIn place (map (λ m. m.place) p.class.pre_destroy.callbacks))
  in_member n place a [] c p e l m = absurd m
  in_member n place a (v ∷ vs) c p e l m = let q = p.0 c (subst (λ z. core_at z a ≡ Some c) (sym m.0) e) l in (v.members, (q, q.all place m.1))

  farewell : (n : ℕ) (place : Place) (w : World) (h : List Item) → KG tables w h → Parted w → MayRun tables n place w h → IsFarewell tables (Wrote (entries.Run n place)) h
  farewell n place w h g p ok ending =
      let c = leaving_core n w (ending_leaving (nat_lt n w.next) (phase_at n w.instances) (subst IsEnding (g.0.1 n).fate ending)) in
      elim (ok c.0 c.1 c.2) [
        | inl m ↦ (let q = (in_member n place w.instances w.invocations c.0 p c.1 c.2 m).1 in (q.0.class, (of_class n c.0 w h g.1 c.1 q.0.index q.0.is q.0.bean q.0.known q.0.class q.0.kind, inl q.1)))
        | inr o ↦ (o.class, (of_class n c.0 w h g.1 c.1 o.index o.is o.bean o.known o.class o.kind, inr o.own))
      ]

  -- ---- all tasks

  abbrev FG : World → List Item → Type 0
  FG w h = KG tables w h × (Parted w × Each (IsFarewell tables) h)

  each_birth : (g : Change) (w : World) (h : List Item) → Each (IsFarewell tables) h → Each (IsFarewell tables) (with_birth g w h)
  each_birth (Change.Make component owner fields) w h e = (tt, e)
  each_birth _ w h e = e

  one_more : (e : Entry) (w : World) (h : List Item) (X : Type 0) → KG tables w h → Parted w → Note (Ok tables) e w h X → IsFarewell tables (Wrote e) h
  one_more (entries.Run n place) w h X g p x = farewell n place w h g p x.0.0
  one_more _ w h X g p x = tt

  with_farewells : {A : Type 0} (p : Prog A) (w : World) (h : List Item) (Q : Completion A → World → List Item → Type 0) → Does tables (Ok tables) (KG tables) (Pre tables) (BothPost tables) p w h Q → Parted w → Each (IsFarewell tables) h → Does tables (Ok tables) FG (Pre tables) (BothPost tables) p w h Q
  with_farewells (ret a) w h Q d s e = ((d.0, (s, e)), d.1)
  with_farewells (throw x) w h Q d s e = ((d.0, (s, e)), d.1)
  with_farewells (cut cause) w h Q d s e = (d, (s, e))
  with_farewells (miss p) w h Q d s e = with_farewells p w h Q d s e
  with_farewells (see k) w h Q d s e = with_farewells (k tables w) w h Q d s e
  with_farewells (change x p) w h Q d s e = guard_map (Ok tables) x w h (λ y. with_farewells p (after_change x w) (with_birth x w h) Q y (parted_change h x w _ s d) (each_birth x w h e)) d
  with_farewells (tick x p) w h Q d s e = ((d.0, (s, e)), note_map (Ok tables) x w h (λ y. with_farewells p (with_entry x w) (Wrote x ∷ h) Q y s (one_more x w h _ d.0 s d.1, e)) d.1)
  with_farewells (mark m p) w h Q d s e = with_farewells p w (Between m ∷ h) Q d s (tt, e)
  with_farewells (act b fields view k) w h Q d s e = ((d.0, (s, e)), λ a. with_farewells (k a) (with_entry (entries.Did a) w) (Wrote (entries.Did a) ∷ h) Q (d.1 a) s (tt, e))
  with_farewells (choose m k) w h Q d s e = ((d.0, (s, e)), λ i l. with_farewells (k i) (with_entry (entries.Pick (candidates m) i) w) (Wrote (entries.Pick (candidates m) i) ∷ h) Q (d.1 i l) s (tt, e))
  with_farewells (nested t k) w h Q d s e = ((d.0, (s, e)), d.1, λ c v j g z. with_farewells (k c) v j Q (d.2 c v j g.0 z) g.1.0 g.1.1)

  all_farewells : (t : Task) (w : World) (h : List Item) → FG w h → Pre tables t w h → Does tables (Ok tables) FG (Pre tables) (BothPost tables) (machine t) w h (BothPost tables t w h)
  all_farewells t w h g q = with_farewells (machine t) w h (BothPost tables t w h) (all_born tables t w h g.0 q) g.1.0 g.1.1

  nobody : (a : Instances) → AllParted a []
  nobody a = tt

  pub nobody_of : (a : Instances) (vs : List Invocation) → targets vs ≡ [] → AllParted a vs
  nobody_of a [] e = nobody a
  nobody_of a (v ∷ vs) e = absurd (cc)

  module _ (legal : Legal) where
    run_farewells : (c : Command) (w v : World) (o : Outcome) (h : List Item) (r : Runs tables legal ⊥ (task c) w o v) → Tidy w → ((n : ℕ) → Sane n w h) → Known tables w h → Each (IsFarewell tables) h → Each (IsFarewell tables) (items_of h r)
    run_farewells c w v o h r g s k e =
        (sound tables (Ok tables) FG (Pre tables) (BothPost tables) legal all_farewells h _ r (with_farewells (task c) w h _ (born_command tables c w h g s k) (nobody_of w.instances w.invocations g.targets) e)).0.1.1

    pub farewell_story : {s : State} {h : List Item} → Story tables legal s h → Each (IsFarewell tables) h
    farewell_story (Story.begins ticks depth) = tt
    farewell_story (Story.refuses {s = s} {h = h} c r l q) = farewell_story l
    farewell_story (Story.goes {s = s} {h = h} {o = o} {v = v} c l q r) =
        run_farewells c (at_begin s.world) v o h r (begin_tidy s.world (tidy_story tables legal l (not_halted s.halted _ _ q))) (λ n. ledgered.at_rest n s.world h (sane_story tables legal n l)) (Rattle.cdi_ledger.proofs.Births.known_begin tables s.world h (known_story tables legal l)) (farewell_story l)

    pub bodies_are_farewells : BodiesAreFarewells tables legal
    bodies_are_farewells s h l = (living h (ledgered.in_order s.world h (λ n. sane_story tables legal n l)), farewell_story l)

  module _ (legal : Legal) where
    pub farewells_if_short : BodiesAreFarewellsIfShort tables legal
    farewells_if_short s h c o v l q r = (living (items_of h r) (also_short tables InOrder ledgered.shorter legal (task c) (at_begin s.world) v o h ordered r), also_short tables (Each (IsFarewell tables)) (λ x k e. e.1) legal (task c) (at_begin s.world) v o h all r)
      where
        ordered : (o' : Outcome) (v' : World) (z : Runs tables anything ⊥ (task c) (at_begin s.world) o' v') → InOrder (items_of h z)
        ordered o' v' z = ledgered.in_order v' (items_of h z) (λ k. ledgered.command_keeps tables k anything c (at_begin s.world) v' o' h z (ledgered.at_rest k s.world h (sane_story tables legal k l)))

        all : (o' : Outcome) (v' : World) (z : Runs tables anything ⊥ (task c) (at_begin s.world) o' v') → Each (IsFarewell tables) (items_of h z)
        all o' v' z = run_farewells anything c (at_begin s.world) v' o' h z (begin_tidy s.world (tidy_story tables legal l (not_halted s.halted _ _ q))) (λ n. ledgered.at_rest n s.world h (sane_story tables legal n l))
            (Rattle.cdi_ledger.proofs.Births.known_begin tables s.world h (known_story tables legal l)) (farewell_story legal l)
