-- The bodies of pre-destroy chains and callbacks run in the destruction of their instance alone.
use Rattle.std.proofs.Common.{ℕ, ◌≡◌, List, [], ◌∷◌, ◌⊎◌, inl, inr, Option, Some, None, Bool, true, false, refl, sym, ap, ◌∙◌, subst}
use Rattle.std.specs.Prelude.{nat_lt, option_map, map}
use Rattle.cdi_base.specs.declared.entry.Entry.{Entry}
use Rattle.cdi_base.specs.declared.entry.Entry.TheVariants as entries
use Rattle.cdi_base.specs.declared.place.Place.{Place}
use Rattle.cdi_base.specs.declared.place.Place.TheVariants as places
use Rattle.cdi_base.specs.declared.place.InterceptorMethod.TheVariants as roles
use Rattle.cdi_base.specs.Maps.{at}
use Rattle.cdi_store.specs.declared.instance.Component.{Component}
use Rattle.cdi_store.specs.declared.instance.Component.TheVariants as components
use Rattle.cdi_store.specs.declared.instance.Owner.{Owner}
use Rattle.cdi_store.specs.declared.instance.Owner.TheVariants as owners
use Rattle.cdi_store.specs.declared.instance.Instance.{Instance}
use Rattle.cdi_store.specs.declared.instance.Phase.{Phase}
use Rattle.cdi_store.specs.declared.instance.Phase.TheVariants as phases
use Rattle.cdi_store.specs.Live.{with_ready, with_leaving}
use Rattle.cdi_base.specs.Maps.{without}
use Rattle.cdi_machine.specs.Tables.{Tables, Code, Managed, Kind, Bean}
use Rattle.cdi_machine.specs.World.{World, Change, Invocation, after_change, with_entry, instance_at, at_begin, for_instance, with_owned, without_owned, without_making, with_instances, on_top, below}
use Rattle.cdi_machine.specs.Programs.{Task, Completion, Prog, ret, throw, cut, miss, see, change, tick, mark, act, choose, nested, candidates}
use Rattle.cdi_machine.specs.Commands.{Command, task}
use Rattle.cdi_machine.specs.Machine.{machine}
use Rattle.cdi_machine.specs.Runs.{Legal, Outcome, Runs}
use Rattle.cdi_machine.specs.Container.{State}
use Rattle.cdi_ledger.specs.Ledger.{Item, Wrote, Between, Born, with_birth, fate, items_of}
use Rattle.cdi_ledger.specs.Stories.{Story}
use Rattle.cdi_ledger.specs.Whose.{IsIn}
use Rattle.cdi_ledger.specs.Ends.{Each, IsEnding, IsOfClass}
use Rattle.cdi_ledger.specs.Callbacks.{IsOrdinary, PlacesOfBodiesAreApart, IsFarewellOf, IsInDestruction, FarewellsInDestruction, FarewellsInDestructionIfShort}
use Rattle.cdi_ledger.proofs.Judge.{Does, sound, Guard, guard_map, Note, note_map}
use Rattle.cdi_ledger.proofs.Phases.{phase_of}
use Rattle.cdi_ledger.proofs.Plain.{Sane, stands}
use Rattle.cdi_ledger.proofs.Ledgered as ledgered
use Rattle.cdi_ledger.proofs.Fronts.{anything, also_short}
use Rattle.cdi_ledger.proofs.Cores.{core_of}
use Rattle.cdi_ledger.proofs.Homes.{targets}
use Rattle.cdi_ledger.proofs.Owed.{Ok, Pre, AreOrdinary, IsAttendant, IsKnown, IsThere, IsAttending, MayEnter, EntersSo, AtMember, IsMemberAt}
use Rattle.cdi_ledger.proofs.Tops.{Tidy}
use Rattle.cdi_ledger.proofs.Settled.{tidy_story, sane_story, begin_tidy, not_halted}
use Rattle.cdi_ledger.proofs.Nesting.{BothPost}
use Rattle.cdi_ledger.proofs.Past.{Past, past_step}
use Rattle.cdi_ledger.proofs.Births.{Known, KG, all_born, born_command, known_story, known_begin}

module _ (tables : Tables) where
  -- the place is a callback's
  pub record IsCallback (place : Place) : Type 0 where
    pub index : ℕ
    pub bean : Bean
    pub known : tables.bean index ≡ Some bean
    pub class : Managed
    pub kind : bean.kind ≡ Kind.Class class
    pub code : Code
    pub is_in : IsIn code class.pre_destroy.callbacks
    pub stands : code.place ≡ place

  pub at_in : (place : Place) (ms : List Code) (w : World) (h : List Item) → AtMember tables place ms w h → IsIn place (map (λ m. m.place) ms)
  at_in place [] w h a = absurd a
  at_in place (m ∷ ms) w h (inl a) = inl a.0
  at_in place (m ∷ ms) w h (inr a) = inr a

  pub code_of : (place : Place) (ms : List Code) → IsIn place (map (λ m. m.place) ms) → (m : Code) × IsIn m ms × (m.place ≡ place)
  code_of place [] i = absurd i
  code_of place (m ∷ ms) (inl e) = (m, inl refl, e)
  code_of place (m ∷ ms) (inr i) = let c = code_of place ms i in (c.0, inr c.1, c.2)

  place_of : (m : Code) (ms : List Code) → IsIn m ms → IsIn m.place (map (λ m. m.place) ms)
  place_of m [] i = absurd i
  place_of m (k ∷ ms) (inl e) = inl (ap (λ (z : Code). z.place) e)
  place_of m (k ∷ ms) (inr i) = inr (place_of m ms i)

  -- an invocation of a destruction, or another
  abbrev pub IsOneOf : List Item → Invocation → Type 0
  IsOneOf h v = (Past (fate v.target h) × ((place : Place) → IsIn place (map (λ m. m.place) v.members) → IsCallback place)) ⊎ AreOrdinary tables v.role v.members

  abbrev pub AllOneOf : List Item → List Invocation → Type 0
  AllOneOf h [] = Unit {0}
  AllOneOf h (v ∷ vs) = IsOneOf h v × AllOneOf h vs

  pub later : (x : Item) (h : List Item) (vs : List Invocation) → AllOneOf h vs → AllOneOf (x ∷ h) vs
  later x h [] a = tt
  later x h (v ∷ vs) a = (elim a.0 [ inl p ↦ inl (past_step v.target x (fate v.target h) p.0, p.1) | inr o ↦ inr o ], later x h vs a.1)

  pub later_birth : (g : Change) (w : World) (h : List Item) (vs : List Invocation) → AllOneOf h vs → AllOneOf (with_birth g w h) vs
  later_birth (Change.Make component owner fields) w h vs a = later (Born w.next component owner) h vs a
  later_birth _ w h vs a = a

  changed : (h : List Item) (f : Invocation → Invocation) → ((v : Invocation) → (f v).target ≡ v.target) → ((v : Invocation) → (f v).role ≡ v.role) → ((v : Invocation) → (f v).members ≡ v.members) → (vs : List Invocation) → AllOneOf h vs → AllOneOf h (on_top f vs)
  changed h f t r m [] a = tt
  changed h f t r m (v ∷ vs) a = (
    elim a.0 [
      | inl p ↦ inl (subst (λ z. Past (fate z h)) (sym (t v)) p.0, λ place i. p.1 place (subst (λ z. IsIn place (map (λ m. m.place) z)) (m v) i))
      | inr o ↦ inr ((λ e. o.0 (sym (r v) ∙ e)), λ k i. o.1 k (subst (IsIn k) (m v) i))
    ],
    a.1,
  )

  ended : (h : List Item) (vs : List Invocation) → AllOneOf h vs → AllOneOf h (below vs)
  ended h [] a = a
  ended h (v ∷ vs) a = a.1

  -- what has had its end, and is there, is in its destruction
  pub past_ending : (n : ℕ) (w : World) (h : List Item) → Sane n w h → IsThere n w → Past (fate n h) → IsEnding (fate n h)
  past_ending n w h s l p = subst IsEnding (sym s.fate) (by (at w.instances n) (nat_lt n w.next) l.1 (subst Past s.fate p))
    where
      over : (b : Bool) (p : Phase) → Past (stands b (Some p)) → IsEnding (stands b (Some p))
      over true phases.Leaving q = tt
      over false phases.Leaving q = tt
      over b phases.New q = absurd q
      over b phases.Ready q = absurd q

      by : (o : Option Instance) (b : Bool) → option_map core_of o ≡ Some l.0 → Past (stands b (phase_of o)) → IsEnding (stands b (phase_of o))
      by None b e q = absurd (cc)
      by (Some o) b e q = over b o.phase q

  entering : (i : Invocation) (w : World) (h : List Item) → MayEnter tables i.target i.members w → EntersSo tables i.target i.role i.members w h → IsOneOf h i
  entering i w h m (inr o) = inr o
  entering i w h m (inl l) =
      let p = m l.0.0 l.0.1 l.0.2 in
      inl (l.1, λ place z. (let c = code_of place p.class.pre_destroy.callbacks (p.all place z) in record { index = p.index; bean = p.bean; known = p.known; class = p.class; kind = p.kind; code = c.0; is_in = c.1; stands = c.2 }))

  pub one_change : (h : List Item) (g : Change) (w : World) (X : Type 0) → AllOneOf h w.invocations → Guard (Ok tables) g w h X → AllOneOf h (after_change g w).invocations
  one_change h (Change.Make component (owners.Context c) fields) w X a x = a
  one_change h (Change.Make component (owners.Instance m) fields) w X a x = a
  one_change h (Change.Make component owners.Borrower fields) w X a x = a
  one_change h (Change.Settle n) w X a x = by (instance_at w n)
    where
      owned : (component : Component) (owner : Owner) → AllOneOf h (with_owned n component owner (with_instances (with_ready n) w)).invocations
      owned component (owners.Context c) = a
      owned component (owners.Instance m) = a
      owned component owners.Borrower = a

      by : (o : Option Instance) → AllOneOf h (for_instance w o (λ o. with_owned n o.component o.owner (with_instances (with_ready n) w))).invocations
      by None = a
      by (Some o) = owned o.component o.owner
  one_change h (Change.Discard n) w X a x = by (instance_at w n)
    where
      owned : (component : Component) (owner : Owner) → AllOneOf h (without_making component owner (with_instances (without n) w)).invocations
      owned component (owners.Context c) = a
      owned component (owners.Instance m) = a
      owned component owners.Borrower = a

      by : (o : Option Instance) → AllOneOf h (for_instance w o (λ o. without_making o.component o.owner (with_instances (without n) w))).invocations
      by None = a
      by (Some o) = owned o.component o.owner
  one_change h (Change.Leave n) w X a x = by (instance_at w n)
    where
      owned : (component : Component) (owner : Owner) → AllOneOf h (without_owned n component owner (with_instances (with_leaving n) w)).invocations
      owned component (owners.Context c) = a
      owned component (owners.Instance m) = a
      owned component owners.Borrower = a

      by : (o : Option Instance) → AllOneOf h (for_instance w o (λ o. without_owned n o.component o.owner (with_instances (with_leaving n) w))).invocations
      by None = a
      by (Some o) = owned o.component o.owner
  one_change h (Change.Enter i) w X a x = (entering i w h x.0.0 x.0.1, a)
  one_change h (Change.Provide rs) w X a x = changed h _ (λ v. refl) (λ v. refl) (λ v. refl) w.invocations a
  one_change h (Change.Replace vs) w X a x = changed h _ (λ v. refl) (λ v. refl) (λ v. refl) w.invocations a
  one_change h (Change.Keep key v) w X a x = changed h _ (λ v. refl) (λ v. refl) (λ v. refl) w.invocations a
  one_change h Change.Reach w X a x = changed h _ (λ v. refl) (λ v. refl) (λ v. refl) w.invocations a
  one_change h Change.Exit w X a x = ended h w.invocations a
  one_change h _ w X a x = a

  -- ---- a body runs

  module _ (apart : PlacesOfBodiesAreApart tables) where
    module _ (n : ℕ) (c : Managed) (w : World) (h : List Item) (g : KG tables w h) (is : IsOfClass tables h n c) where
      of_ordinary : (m : ℕ) (place : Place) → IsFarewellOf tables h n c m place → IsOrdinary tables place → ⊥
      of_ordinary m place (IsFarewellOf.interceptor _ i y j b e) o = apart.interceptors y.name roles.PreDestroy o
      of_ordinary m place (IsFarewellOf.callback k j) o = apart.callbacks is.index is.bean c k is.known is.is j o

      -- a member of the innermost invocation
      of_member : (m : ℕ) (place : Place) (vs : List Invocation) → AllOneOf h vs → IsThere m w → IsFarewellOf tables h n c m place → IsMemberAt tables m place w h vs → IsEnding (fate n h)
      of_member m place [] a l f i = absurd i
      of_member m place (v ∷ vs) a l f i = by a.0
        where
          in_destruction : (m : ℕ) (place : Place) → Past (fate m h) → IsCallback place → IsThere m w → IsFarewellOf tables h n c m place → IsEnding (fate n h)
          in_destruction m place p k l (IsFarewellOf.interceptor _ i y j b e) = absurd (apart.not_interceptors k.index k.bean k.class k.code y.name roles.PreDestroy k.known k.kind k.is_in k.stands)
          in_destruction m place p k l (IsFarewellOf.callback q j) = past_ending n w h (g.0.1 n) l p

          by : IsOneOf h v → IsEnding (fate n h)
          by (inl p) = in_destruction m place (subst (λ z. Past (fate z h)) i.0 p.0) (p.1 place (at_in place v.members w h i.1)) l f
          by (inr o) = let k = code_of place v.members (at_in place v.members w h i.1) in absurd (of_ordinary m place f (subst (IsOrdinary tables) k.2 (o.1 k.0 k.1)))

      -- an instance of an interceptor
      of_attendant : (m : ℕ) (place : Place) (vs : List Invocation) → AllOneOf h vs → IsFarewellOf tables h n c m place → IsAttending tables m place w h vs → IsEnding (fate n h)
      of_attendant m place [] a f i = absurd i
      of_attendant m place (v ∷ vs) a f x = by m place f x
        where
          by : (m : ℕ) (place : Place) → IsFarewellOf tables h n c m place → IsAttendant tables m place w h v → IsEnding (fate n h)
          by m place (IsFarewellOf.callback q j) x = absurd (apart.not_interceptors is.index is.bean c q x.interceptor.name v.role is.known is.is j x.stands)
          by m place (IsFarewellOf.interceptor _ i y j b e) x =
              let o : owners.Instance v.target ≡ owners.Instance n = sym x.owner ∙ (g.1.once m x.core.component (components.Interceptor i) x.core.owner (owners.Instance n) (g.1.lives m x.core x.there) b).1 in
              let s : v.target ≡ n = cc in
              let r : roles.PreDestroy ≡ v.role = role_of y.name x.interceptor.name roles.PreDestroy v.role x.stands in
              over s r a.0
            where
              role_of : (a b : ℕ) (r q : _) → places.Interceptor a r ≡ places.Interceptor b q → r ≡ q
              role_of a b r q e = cc

              over : v.target ≡ n → roles.PreDestroy ≡ v.role → IsOneOf h v → IsEnding (fate n h)
              over s r (inl p) = past_ending n w h (g.0.1 n) (subst (λ z. IsThere z w) s (x.target, x.lives)) (subst (λ z. Past (fate z h)) s p.0)
              over s r (inr o) = absurd (o.0 (sym r))

    starts : (m : ℕ) (place : Place) (w : World) (h : List Item) → KG tables w h → AllOneOf h w.invocations → IsKnown tables m place w h → IsThere m w → IsInDestruction tables (Wrote (entries.Run m place)) h
    starts m place w h g a (inl o) l n c is f = absurd (of_ordinary n c w h g is m place f o)
    starts m place w h g a (inr (inl i)) l n c is f = of_member n c w h g is m place w.invocations a l f i
    starts m place w h g a (inr (inr i)) l n c is f = of_attendant n c w h g is m place w.invocations a f i

    -- ---- all tasks

    abbrev CG : World → List Item → Type 0
    CG w h = KG tables w h × (AllOneOf h w.invocations × Each (IsInDestruction tables) h)

    each_birth : (g : Change) (w : World) (h : List Item) → Each (IsInDestruction tables) h → Each (IsInDestruction tables) (with_birth g w h)
    each_birth (Change.Make component owner fields) w h e = (tt, e)
    each_birth _ w h e = e

    one_more : (e : Entry) (w : World) (h : List Item) (X : Type 0) → KG tables w h → AllOneOf h w.invocations → Note (Ok tables) e w h X → IsInDestruction tables (Wrote e) h
    one_more (entries.Run n place) w h X g a x = starts n place w h g a x.0.1.0 x.0.1.1
    one_more _ w h X g a x = tt

    with_callbacks : {A : Type 0} (p : Prog A) (w : World) (h : List Item) (Q : Completion A → World → List Item → Type 0) → Does tables (Ok tables) (KG tables) (Pre tables) (BothPost tables) p w h Q → AllOneOf h w.invocations → Each (IsInDestruction tables) h → Does tables (Ok tables) CG (Pre tables) (BothPost tables) p w h Q
    with_callbacks (ret b) w h Q d a e = ((d.0, (a, e)), d.1)
    with_callbacks (throw x) w h Q d a e = ((d.0, (a, e)), d.1)
    with_callbacks (cut cause) w h Q d a e = (d, (a, e))
    with_callbacks (miss p) w h Q d a e = with_callbacks p w h Q d a e
    with_callbacks (see k) w h Q d a e = with_callbacks (k tables w) w h Q d a e
    with_callbacks (change x p) w h Q d a e = guard_map (Ok tables) x w h (λ y. with_callbacks p (after_change x w) (with_birth x w h) Q y (later_birth x w h (after_change x w).invocations (one_change h x w _ a d)) (each_birth x w h e)) d
    with_callbacks (tick x p) w h Q d a e = ((d.0, (a, e)), note_map (Ok tables) x w h (λ y. with_callbacks p (with_entry x w) (Wrote x ∷ h) Q y (later (Wrote x) h w.invocations a) (one_more x w h _ d.0 a d.1, e)) d.1)
    with_callbacks (mark m p) w h Q d a e = with_callbacks p w (Between m ∷ h) Q d (later (Between m) h w.invocations a) (tt, e)
    with_callbacks (act b fields view k) w h Q d a e = ((d.0, (a, e)), λ x. with_callbacks (k x) (with_entry (entries.Did x) w) (Wrote (entries.Did x) ∷ h) Q (d.1 x) (later (Wrote (entries.Did x)) h w.invocations a) (tt, e))
    with_callbacks (choose m k) w h Q d a e = ((d.0, (a, e)), λ i l. with_callbacks (k i) (with_entry (entries.Pick (candidates m) i) w) (Wrote (entries.Pick (candidates m) i) ∷ h) Q (d.1 i l) (later (Wrote (entries.Pick (candidates m) i)) h w.invocations a) (tt, e))
    with_callbacks (nested t k) w h Q d a e = ((d.0, (a, e)), d.1, λ c v j g z. with_callbacks (k c) v j Q (d.2 c v j g.0 z) g.1.0 g.1.1)

    all_callbacks : (t : Task) (w : World) (h : List Item) → CG w h → Pre tables t w h → Does tables (Ok tables) CG (Pre tables) (BothPost tables) (machine t) w h (BothPost tables t w h)
    all_callbacks t w h g q = with_callbacks (machine t) w h (BothPost tables t w h) (all_born tables t w h g.0 q) g.1.0 g.1.1

    pub nobody : (h : List Item) (vs : List Invocation) → targets vs ≡ [] → AllOneOf h vs
    nobody h [] e = tt
    nobody h (v ∷ vs) e = absurd (cc)

    module _ (legal : Legal) where
      run_callbacks : (c : Command) (w v : World) (o : Outcome) (h : List Item) (r : Runs tables legal ⊥ (task c) w o v) → Tidy w → ((n : ℕ) → Sane n w h) → Known tables w h → Each (IsInDestruction tables) h → Each (IsInDestruction tables) (items_of h r)
      run_callbacks c w v o h r g s k e =
          (sound tables (Ok tables) CG (Pre tables) (BothPost tables) legal all_callbacks h _ r (with_callbacks (task c) w h _ (born_command tables c w h g s k) (nobody h w.invocations g.targets) e)).0.1.1

      pub callback_story : {s : State} {h : List Item} → Story tables legal s h → Each (IsInDestruction tables) h
      callback_story (Story.begins ticks depth) = tt
      callback_story (Story.refuses {s = s} {h = h} c r l q) = callback_story l
      callback_story (Story.goes {s = s} {h = h} {o = o} {v = v} c l q r) =
          run_callbacks c (at_begin s.world) v o h r (begin_tidy s.world (tidy_story tables legal l (not_halted s.halted _ _ q))) (λ n. ledgered.at_rest n s.world h (sane_story tables legal n l)) (known_begin tables s.world h (known_story tables legal l)) (callback_story l)

  module _ (legal : Legal) where
    pub farewells_in_destruction : FarewellsInDestruction tables legal
    farewells_in_destruction apart s h l = callback_story apart legal l

    pub farewells_in_short : FarewellsInDestructionIfShort tables legal
    farewells_in_short apart s h c o v l q r = also_short tables (Each (IsInDestruction tables)) (λ x k e. e.1) legal (task c) (at_begin s.world) v o h all r
      where
        all : (o' : Outcome) (v' : World) (z : Runs tables anything ⊥ (task c) (at_begin s.world) o' v') → Each (IsInDestruction tables) (items_of h z)
        all o' v' z = run_callbacks apart anything c (at_begin s.world) v' o' h z (begin_tidy s.world (tidy_story tables legal l (not_halted s.halted _ _ q))) (λ n. ledgered.at_rest n s.world h (sane_story tables legal n l)) (known_begin tables s.world h (known_story tables legal l)) (callback_story apart legal l)
