-- No destruction starts its first callback again: a body that proceeds is an interceptor's, and then the chain isn't empty.
use Rattle.std.proofs.Common.{ℕ, zero, suc, ◌≡◌, ◌⊎◌, inl, inr, List, [], ◌∷◌, length, Bool, true, false, Option, Some, None, refl, sym, ap, ◌∙◌, subst}
use Rattle.std.specs.Prelude.{nat_lt, nat_eq, option_map, not, ◌||◌}
use Rattle.std.specs.List.{AllByRecursion}
use Rattle.cdi_base.specs.declared.value.Value.{Value}
use Rattle.cdi_base.specs.declared.value.Value.TheVariants as values
use Rattle.cdi_base.specs.BuiltIn.{number_of}
use Rattle.cdi_base.specs.declared.act.Act.{Act}
use Rattle.cdi_base.specs.declared.act.Answer.TheVariants as answers
use Rattle.cdi_base.specs.declared.act.Act.TheVariants as acts
use Rattle.cdi_base.specs.declared.entry.Entry.{Entry}
use Rattle.cdi_base.specs.declared.entry.Entry.TheVariants as entries
use Rattle.cdi_base.specs.declared.built_in.BuiltIn.TheVariants as built_in
use Rattle.cdi_base.specs.declared.place.Place.{Place}
use Rattle.cdi_base.specs.declared.place.Place.TheVariants as places
use Rattle.cdi_base.specs.Maps.{at}
use Rattle.cdi_store.specs.declared.instance.Component.{Component}
use Rattle.cdi_store.specs.declared.instance.Component.TheVariants as components
use Rattle.cdi_store.specs.declared.instance.Owner.{Owner}
use Rattle.cdi_store.specs.declared.instance.Owner.TheVariants as owners
use Rattle.cdi_store.specs.declared.instance.Instance.{Instance}
use Rattle.cdi_store.specs.declared.instance.Phase.TheVariants as phases
use Rattle.cdi_store.specs.declared.references.Reference.{Reference}
use Rattle.cdi_store.specs.Live.{Instances, with_ready, with_leaving}
use Rattle.cdi_base.specs.Maps.{without}
use Rattle.cdi_machine.specs.Words.{Name}
use Rattle.cdi_machine.specs.Tables.{Tables, Code, Method, Managed, Kind, Bean, Interceptor, written_act}
use Rattle.cdi_machine.specs.World.{World, Change, Invocation, after_change, with_entry, instance_at, on_top, below, for_instance, with_owned, without_owned, without_making, with_instances}
use Rattle.cdi_machine.specs.Programs.{Task, Given, Completion, Gave, Threw, Running, Prog, ret, throw, cut, miss, see, change, tick, mark, act, choose, nested, candidates, handle, call, complete, attempt, note, alter, finally, require_present, require_depth, require, expect, each, top, instance, invocation}
use Rattle.cdi_machine.specs.Bodies.{run_body, run_rest, body_at_start, given_by, is_of, first_of, interceptor_of, proceed, replace_parameters, repeats, fits as takes_as_many, method_in, bean_of, carry_out, answer_of, with_answer, after_act, perform, carry_on}
use Rattle.cdi_machine.specs.Creation.{create, create_by, begin_creation, make, first_fields}
use Rattle.cdi_machine.specs.Machine.{machine}
use Rattle.cdi_machine.specs.Runs.{Legal}
use Rattle.cdi_ledger.specs.Whose.{IsIn}
use Rattle.cdi_ledger.proofs.Cores.{core_of, core_at}
use Rattle.cdi_ledger.proofs.Homes.{targets, codes}
use Rattle.cdi_ledger.specs.Ledger.{Item, Wrote, Between, Born, with_birth, fate}
use Rattle.cdi_ledger.specs.Ends.{Each, IsOfClass, IsEnding}
use Rattle.cdi_ledger.specs.Callbacks.{IsOrdinary, PlacesOfBodiesAreApart, IsProceed, IsFirstOf}
use Rattle.cdi_ledger.proofs.Judge.{Does, guard_of, note_of}
use Rattle.cdi_ledger.proofs.Phases.{phase_at, phase_of}
use Rattle.cdi_ledger.proofs.Owed.{Ok, Pre, post_rel, IsEndOf, behind_first, StartsSo, InFarewell}
use Rattle.cdi_ledger.proofs.Nesting.{BothPost, ending_leaving}
use Rattle.cdi_ledger.proofs.Births.{KG, all_born}
use Rattle.cdi_ledger.proofs.Callbacks.{IsOneOf, AllOneOf, later, later_birth, one_change, past_ending}
use Rattle.cdi_whole.specs.Fits.{Site, class_site, Fits, FitsBean}
use Rattle.cdi_whole.proofs.Terms.{Home, Stood, CanRun, CanRest}
use Rattle.cdi_whole.proofs.Terms as fit
use Rattle.cdi_whole.proofs.Quiet.{moves}
use Rattle.cdi_whole.proofs.Safe.{Safe}
use Rattle.cdi_whole.proofs.Tasks.{task_safe}
use Rattle.cdi_whole.proofs.Without.{Tells}
use Rattle.cdi_whole.proofs.Idle as idle
use Rattle.cdi_whole.proofs.Idle.{Proceeds, Moves, NoAct, Called, Idle}

-- ---- a stack without its innermost

abbrev behind : {X : Type 0} → ℕ → List X → List X
behind zero xs = xs
behind (suc d) [] = []
behind (suc d) (x ∷ xs) = behind d xs

behind_none : {X : Type 0} (d : ℕ) → behind {X = X} d [] ≡ []
behind_none zero = refl
behind_none (suc d) = refl

behind_below : {X : Type 0} (f : Invocation → X) (d : ℕ) (vs : List Invocation) → behind d (Rattle.std.specs.Prelude.map f (below vs)) ≡ behind (suc d) (Rattle.std.specs.Prelude.map f vs)
behind_below f d [] = behind_none d
behind_below f d (v ∷ vs) = refl

-- targets and bodies of invocations are the same
abbrev AreSame : World → World → Type 0
AreSame w v = (targets v.invocations ≡ targets w.invocations) × (codes v.invocations ≡ codes w.invocations)

on_top_same : (f : Invocation → Invocation) → ((v : Invocation) → (f v).target ≡ v.target) → ((v : Invocation) → (f v).members ≡ v.members) → (vs : List Invocation) → (targets (on_top f vs) ≡ targets vs) × (codes (on_top f vs) ≡ codes vs)
on_top_same f t m [] = (refl, refl)
on_top_same f t m (v ∷ vs) = (ap (λ z. z ∷ targets vs) (t v), ap (λ z. z ∷ codes vs) (m v))

for_same : (w : World) (o : Option Instance) (f : Instance → World) → ((x : Instance) → AreSame w (f x)) → AreSame w (for_instance w o f)
for_same w None f h = (refl, refl)
for_same w (Some x) f h = h x

owned_same : (n : ℕ) (component : Component) (owner : Owner) (w u : World) → AreSame w u → AreSame w (with_owned n component owner u)
owned_same n component (owners.Context c) w u s = s
owned_same n component (owners.Instance m) w u s = s
owned_same n component owners.Borrower w u s = s

left_same : (n : ℕ) (component : Component) (owner : Owner) (w u : World) → AreSame w u → AreSame w (without_owned n component owner u)
left_same n component (owners.Context c) w u s = s
left_same n component (owners.Instance m) w u s = s
left_same n component owners.Borrower w u s = s

failed_same : (component : Component) (owner : Owner) (w u : World) → AreSame w u → AreSame w (without_making component owner u)
failed_same component (owners.Context c) w u s = s
failed_same component (owners.Instance m) w u s = s
failed_same component owners.Borrower w u s = s

module _ (ts : List ℕ) (cs : List (List Code)) where
  -- at this depth over a stack with these targets and bodies
  abbrev Over : ℕ → World → Type 0
  Over d w = (behind d (targets w.invocations) ≡ ts) × (behind d (codes w.invocations) ≡ cs)

  over_same : (d : ℕ) (w v : World) → AreSame w v → Over d w → Over d v
  over_same d w v s o = (ap (behind d) s.0 ∙ o.0, ap (behind d) s.1 ∙ o.1)

  abbrev Moved : World → (ℕ → Type 0) → Type 0
  Moved v X = (k : ℕ) × X k × Over k v

  moved : (g : Change) (d : ℕ) (w : World) (X : ℕ → Type 0) → Over d w → Moves g d X → Moved (after_change g w) X
  moved (Change.Make component (owners.Context c) fields) d w X o x = (d, x, o)
  moved (Change.Make component (owners.Instance m) fields) d w X o x = (d, x, o)
  moved (Change.Make component owners.Borrower fields) d w X o x = (d, x, o)
  moved (Change.Settle n) d w X o x = (d, x, over_same d w (after_change (Change.Settle n) w) (for_same w (instance_at w n) (λ o. with_owned n o.component o.owner (with_instances (with_ready n) w)) (λ i. owned_same n i.component i.owner w (with_instances (with_ready n) w) (refl, refl))) o)
  moved (Change.Discard n) d w X o x = (d, x, over_same d w (after_change (Change.Discard n) w) (for_same w (instance_at w n) (λ o. without_making o.component o.owner (with_instances (without n) w)) (λ i. failed_same i.component i.owner w (with_instances (without n) w) (refl, refl))) o)
  moved (Change.Leave n) d w X o x = (d, x, over_same d w (after_change (Change.Leave n) w) (for_same w (instance_at w n) (λ o. without_owned n o.component o.owner (with_instances (with_leaving n) w)) (λ i. left_same n i.component i.owner w (with_instances (with_leaving n) w) (refl, refl))) o)
  moved (Change.Enter i) d w X o x = (suc d, x, o)
  moved (Change.Provide rs) d w X o x = (d, x, over_same d w (after_change (Change.Provide rs) w) (on_top_same _ (λ v. refl) (λ v. refl) w.invocations) o)
  moved (Change.Replace vs) d w X o x = (d, x, over_same d w (after_change (Change.Replace vs) w) (on_top_same _ (λ v. refl) (λ v. refl) w.invocations) o)
  moved (Change.Keep key v) d w X o x = (d, x, over_same d w (after_change (Change.Keep key v) w) (on_top_same _ (λ v. refl) (λ v. refl) w.invocations) o)
  moved Change.Reach d w X o x = (d, x, over_same d w (after_change Change.Reach w) (on_top_same _ (λ v. refl) (λ v. refl) w.invocations) o)
  moved Change.Exit zero w X o x = absurd x
  moved Change.Exit (suc d) w X o x = (d, x, (behind_below (λ v. v.target) d w.invocations ∙ o.0, behind_below (λ v. v.members) d w.invocations ∙ o.1))
  moved _ d w X o x = (d, x, o)

-- ---- items

abbrev Grows : List Item → List Item → Type 0
Grows h k = (x : Item) → IsIn x h → IsIn x k

grows_birth : (g : Change) (w : World) (h k : List Item) → Grows h k → Grows h (with_birth g w k)
grows_birth (Change.Make component owner fields) w h k g = λ x i. inr (g x i)
grows_birth _ w h k g = g

no_birth : (g : Change) (w : World) (h : List Item) → (IsProceed h → ⊥) → IsProceed (with_birth g w h) → ⊥
no_birth (Change.Make component owner fields) w h free = λ i. i
no_birth _ w h free = free

no_entry : (e : Entry) (h : List Item) (X : Type 0) → NoAct e X → IsProceed (Wrote e ∷ h) → ⊥
no_entry (entries.Did a) h X q i = absurd q
no_entry _ h X q i = i

of_entry : (e : Entry) (X : Type 0) → NoAct e X → X
of_entry (entries.Did a) X q = absurd q
of_entry _ X q = q

-- no `did proceed` is left by a task, but by the rest of a chain that was begun behind one
abbrev Still : Task → List Item → List Item → Type 0
Still (Task.Rest chain) h k = (IsProceed h → ⊥) → IsProceed k → ⊥
Still _ h k = IsProceed k → ⊥

still_after : (t : Task) (h k : List Item) → (IsProceed h → ⊥) → Still t h k → IsProceed k → ⊥
still_after (Task.Rest chain) h k free s = s free
still_after _ h k free s = s

first_code : (tables : Tables) (h : List Item) (n : ℕ) (callbacks : List Code) (m : ℕ) (place : Place) → IsFirstOf tables h n [] callbacks m place → (m ≡ n) × ((k : Code) × IsIn k callbacks × (k.place ≡ place))
first_code tables h n [] m place f = absurd f
first_code tables h n (k ∷ callbacks) m place f = (f.0, (k, inl refl, f.1))

module _ (tables : Tables) (legal : Legal) (fits : Fits tables legal) (apart : PlacesOfBodiesAreApart tables) where
  -- the first callback doesn't start right behind a `did proceed`, if no interceptor stands before it
  abbrev pub IsNotAgain : Item → List Item → Type 0
  IsNotAgain (Wrote (entries.Run m place)) h = IsProceed h → (n : ℕ) (c : Managed) → IsOfClass tables h n c → c.pre_destroy.chain ≡ [] → IsFirstOf tables h n [] c.pre_destroy.callbacks m place → ⊥
  IsNotAgain _ h = Unit {0}

  abbrev pub E : List Item → Type 0
  E h = Each IsNotAgain h

  abbrev pub G : World → List Item → Type 0
  G w h = KG tables w h × (AllOneOf tables h w.invocations × E h)

  not_again : (x : Item) (h : List Item) → (IsProceed h → ⊥) → IsNotAgain x h
  not_again (Wrote (entries.Run m place)) h free = λ i. absurd (free i)
  not_again _ h free = tt

  each_birth : (g : Change) (w : World) (h : List Item) → E h → E (with_birth g w h)
  each_birth (Change.Make component owner fields) w h e = (tt, e)
  each_birth _ w h e = e

  -- an interceptor stands in the pre-destroy chain of its class, if it has one
  pub record Chained (n : ℕ) (h : List Item) : Type 0 where
    pub component : Component
    pub owner : Owner
    pub born : IsIn (Born n component owner) h
    pub some : (b : ℕ) (x : Bean) (c : Managed) → component ≡ components.Bean b → tables.bean b ≡ Some x → x.kind ≡ Kind.Class c → c.pre_destroy.chain ≡ [] → ⊥

  -- of the innermost invocation, by its target and bodies
  abbrev Firm : List ℕ → List (List Code) → List Item → Type 0
  Firm (n ∷ ts) (ms ∷ cs) h = ((m : Code) → IsIn m ms → IsOrdinary tables m.place) ⊎ Chained n h
  Firm _ _ h = Unit {0}

  firm_grows : (ts : List ℕ) (cs : List (List Code)) (h k : List Item) → Grows h k → Firm ts cs h → Firm ts cs k
  firm_grows [] cs h k g f = tt
  firm_grows (n ∷ ts) [] h k g f = tt
  firm_grows (n ∷ ts) (ms ∷ cs) h k g (inl o) = inl o
  firm_grows (n ∷ ts) (ms ∷ cs) h k g (inr c) = inr (record { component = c.component; owner = c.owner; born = g _ c.born; some = c.some })

  abbrev FirmAt : World → List Item → Type 0
  FirmAt w h = Firm (targets w.invocations) (codes w.invocations) h

  firm_same : (w v : World) (h : List Item) → AreSame w v → FirmAt w h → FirmAt v h
  firm_same w v h s f = subst (λ z. Firm z (codes v.invocations) h) (sym s.0) (subst (λ z. Firm (targets w.invocations) z h) (sym s.1) f)

  abbrev Next : Task → World → List Item → Type 0
  Next (Task.Rest chain) w h = IsProceed h → FirmAt w h
  Next (Task.Body r) w h = Proceeds legal r.body (FirmAt w h) × IsNotAgain (Wrote (entries.Run r.instance r.place)) h
  Next (Task.Acts r) w h = Proceeds legal r.body (FirmAt w h)
  Next _ w h = IsProceed h → ⊥

  abbrev pub Asks : Task → World → List Item → Type 0
  Asks t w h = (Pre tables t w h × fit.Pre tables legal t w) × Next t w h

  abbrev pub Leaves : Task → World → List Item → Completion Given → World → List Item → Type 0
  Leaves t w h c v k = BothPost tables t w h c v k × (fit.Post tables legal t w c v × (Grows h k × Still t h k))

  abbrev D : {A : Type 0} → Prog A → World → List Item → (Completion A → World → List Item → Type 0) → Type 0
  D p w h Q = Does tables (Ok tables) (KG tables) (Pre tables) (BothPost tables) p w h Q

  abbrev S : {A : Type 0} → Prog A → World → (Completion A → World → Type 0) → Type 0
  S p w R = Safe tables legal (fit.Pre tables legal) (fit.Post tables legal) p w R

  abbrev pub T : {A : Type 0} → Prog A → World → List Item → (Completion A → World → List Item → Type 0) → Type 0
  T p w h Q = Tells tables legal E G Asks Leaves p w h Q

  -- ---- programs that give no act

  module _ (Own : ℕ → Type 0) (ts : List ℕ) (cs : List (List Code)) (h0 : List Item) (firm : (b : ℕ) → Own b → Proceeds legal b (Firm ts cs h0)) (F : List Item → Type 0) (final : (k : List Item) → (IsProceed k → ⊥) → F k) where
    firm_over : (d : ℕ) (w : World) (h : List Item) → d ≡ 0 → Over ts cs d w → Grows h0 h → Firm ts cs h0 → FirmAt w h
    firm_over d w h e o g f =
        let p : (targets w.invocations ≡ ts) × (codes w.invocations ≡ cs) = subst (λ z. Over ts cs z w) e o in
        firm_grows (targets w.invocations) (codes w.invocations) h0 h g (subst (λ z. Firm z (codes w.invocations) h0) (sym p.0) (subst (λ z. Firm ts z h0) (sym p.1) f))

    next_of : (t : Task) (d : ℕ) (w : World) (h : List Item) → Called legal Own d t → (IsProceed h → ⊥) → Over ts cs d w → Grows h0 h → Next t w h
    next_of (Task.Rest chain) d w h q free o g = λ i. absurd (free i)
    next_of (Task.Body r) d w h q free o g = ((λ n f v args l. absurd (q n f v args l)), not_again (Wrote (entries.Run r.instance r.place)) h free)
    next_of (Task.Acts r) d w h q free o g = λ n f v args l. firm_over d w h q.0 o g (firm r.body q.1 n f v args l)
    next_of _ d w h q free o g = free

    pub walks : {A : Type 0} (e d : ℕ) (p : Prog A) (w : World) (h : List Item) (Q : Completion A → World → List Item → Type 0) (R : Completion A → World → Type 0)
        → Idle legal Own e d p → D p w h Q → S p w R → AllOneOf tables h w.invocations → E h → (IsProceed h → ⊥) → Over ts cs d w → Grows h0 h → T p w h (λ c v k. Q c v k × (R c v × (Grows h0 k × F k)))
    walks e d (ret a) w h Q R u q s l x free o g = (x, ((q.0, (l, x)), (q.1, (s, (g, final h free)))))
    walks e d (throw y) w h Q R u q s l x free o g = (x, ((q.0, (l, x)), (q.1, (s, (g, final h free)))))
    walks e d (cut cause) w h Q R u q s l x free o g = x
    walks e d (miss p) w h Q R u q s l x free o g = x
    walks e d (see k) w h Q R u q s l x free o g = (x, walks e d (k tables w) w h Q R (u tables w) q s l x free o g)
    walks e d (change y p) w h Q R u q s l x free o g =
        let m = moved ts cs y d w (λ k. Idle legal Own e k p) o u in
        (x, walks e m.0 p (after_change y w) (with_birth y w h) Q R m.1 (guard_of (Ok tables) y w h q) s (later_birth tables y w h (after_change y w).invocations (one_change tables h y w _ l q)) (each_birth y w h x) (no_birth y w h free) m.2 (grows_birth y w h0 h g))
    walks e d (tick y p) w h Q R u q s l x free o g = (x, walks e d p (with_entry y w) (Wrote y ∷ h) Q R (of_entry y _ u) (note_of (Ok tables) y w h q.1) s (later tables (Wrote y) h w.invocations l) (not_again (Wrote y) h free, x) (no_entry y h _ u) o (λ z i. inr (g z i)))
    walks e d (mark n p) w h Q R u q s l x free o g = (x, walks e d p w (Between n ∷ h) Q R u q s (later tables (Between n) h w.invocations l) (tt, x) (λ i. i) o (λ z i. inr (g z i)))
    walks e d (act b fields view k) w h Q R u q s l x free o g = absurd u
    walks e d (choose n k) w h Q R u q s l x free o g = (x, λ i z. walks e d (k i) (with_entry (entries.Pick (candidates n) i) w) (Wrote (entries.Pick (candidates n) i) ∷ h) Q R (u i) (q.1 i z) (s i z) (later tables (Wrote (entries.Pick (candidates n) i)) h w.invocations l) (tt, x) (λ i. i) o (λ z i. inr (g z i)))
    walks e d (nested t k) w h Q R u q s l x free o g = (
      x,
      (
        (q.0, (l, x)),
        (
          ((q.1, s.0), next_of t d w h u.0 free o g),
          λ c w1 h1 g1 p1.
              walks e d (k c) w1 h1 Q R (u.1 c) (q.2 c w1 h1 g1.0 p1.0) (s.1 c w1 p1.1.0) g1.1.0 g1.1.1 (still_after t h h1 free p1.1.1.1)
              (over_same ts cs d w w1 ((post_rel t w w1 h h1 c p1.0.0).targets, (post_rel t w w1 h h1 c p1.0.0).members) o) (λ z i. p1.1.1.0 z (g z i)),
        ),
      ),
    )

  quietly_tells : (t : Task) (w : World) (h : List Item) → Idle legal (λ b. ⊥) 0 0 (machine t) → G w h → Pre tables t w h × fit.Pre tables legal t w → (IsProceed h → ⊥) → T (machine t) w h (λ c v k. BothPost tables t w h c v k × (fit.Post tables legal t w c v × (Grows h k × (IsProceed k → ⊥))))
  quietly_tells t w h u g q free = walks (λ b. ⊥) (targets w.invocations) (codes w.invocations) h (λ b x. absurd x) (λ k. IsProceed k → ⊥) (λ k n. n) 0 0 (machine t) w h (BothPost tables t w h) (fit.Post tables legal t w) u (all_born tables t w h g.0 q.0) (task_safe tables legal fits (moves tables legal) t w q.1) g.1.0 g.1.1 free (refl, refl) (λ x i. i)

  -- ---- a body

  abbrev begins : Running → Prog Given
  begins r = handle (note (entries.Run r.instance r.place)) (λ _. handle (alter (Change.Start r.instance)) (λ _. finally (call (Task.Acts r)) (alter Change.Stop)) throw) throw

  body_tells : (r : Running) (w : World) (h : List Item) → G w h → Asks (Task.Body r) w h → T (run_body r) w h (Leaves (Task.Body r) w h)
  body_tells r w h g q = (g.1.1, by (nat_lt (length w.bodies) w.depth) (all_born tables (Task.Body r) w h g.0 q.0.0) (task_safe tables legal fits (moves tables legal) (Task.Body r) w q.0.1))
    where
      l_acts : Idle legal (λ b. b ≡ r.body) 0 0 (finally (call (Task.Acts r)) (alter Change.Stop))
      l_acts = idle.walk legal (λ b. b ≡ r.body) 0 0 0 (call (Task.Acts r)) _ _ (idle.l_call legal (λ b. b ≡ r.body) 0 (Task.Acts r) (refl, refl)) (λ _. refl) (λ _. refl)

      runs : (x : Option Instance) → D (handle (require_present x) (λ _. begins r) throw) w h (BothPost tables (Task.Body r) w h) → S (handle (require_present x) (λ _. begins r) throw) w (fit.Post tables legal (Task.Body r) w) → T (handle (require_present x) (λ _. begins r) throw) w h (Leaves (Task.Body r) w h)
      runs None d s = g.1.1
      runs (Some o) d s = (
        g.1.1,
        walks (λ b. b ≡ r.body) (targets w.invocations) (codes w.invocations) h (λ b e. subst (λ z. Proceeds legal z (FirmAt w h)) (sym e) q.1.0) (λ k. IsProceed k → ⊥) (λ k n. n) 0 0
            (handle (alter (Change.Start r.instance)) (λ _. finally (call (Task.Acts r)) (alter Change.Stop)) throw) (with_entry (entries.Run r.instance r.place) w) (Wrote (entries.Run r.instance r.place) ∷ h) (BothPost tables (Task.Body r) w h) (fit.Post tables legal (Task.Body r) w)
            l_acts d.1.1 s (later tables (Wrote (entries.Run r.instance r.place)) h w.invocations g.1.0) (q.1.1, g.1.1) (λ i. i) (refl, refl) (λ x i. inr i),
      )

      by : (c : Bool) → D (handle (require_depth c) (λ _. handle (instance r.instance) (λ _. begins r) throw) throw) w h (BothPost tables (Task.Body r) w h) → S (handle (require_depth c) (λ _. handle (instance r.instance) (λ _. begins r) throw) throw) w (fit.Post tables legal (Task.Body r) w)
          → T (handle (require_depth c) (λ _. handle (instance r.instance) (λ _. begins r) throw) throw) w h (Leaves (Task.Body r) w h)
      by false d s = g.1.1
      by true d s = (g.1.1, runs (instance_at w r.instance) d s)

  -- ---- the rest of a chain

  l_completed : {A : Type 0} (c : Completion Given) (f : Given → Prog A) → ((a : Given) → Idle legal (λ b. ⊥) 0 0 (f a)) → Idle legal (λ b. ⊥) 0 0 (handle (complete c) f throw)
  l_completed (Gave a) f q = q a
  l_completed (Threw x) f q = refl

  abbrev body_of : Invocation → Code → Running
  body_of v m = body_at_start v.target m.place m.body v.parameters v.references []

  abbrev reaches : Invocation → Given → Prog Given
  reaches v g = handle (alter Change.Reach) (λ _. ret (given_by v.role g)) throw

  l_members : (v : Invocation) (ms : List Code) → ((m : Code) → IsIn m ms → Proceeds legal m.body ⊥) → Idle legal (λ b. ⊥) 0 0 (each ms (λ m. call (Task.Body (body_of v m))))
  l_members v [] f = refl
  l_members v (m ∷ []) f = idle.l_call legal (λ b. ⊥) 0 (Task.Body (body_of v m)) (f m (inl refl))
  l_members v (m ∷ n ∷ ms) f = idle.then legal (λ b. ⊥) 0 (call (Task.Body (body_of v m))) _ (idle.l_call legal (λ b. ⊥) 0 (Task.Body (body_of v m)) (f m (inl refl))) (λ _. l_members v (n ∷ ms) (λ k i. f k (inr i)))

  -- a body that stands in no chain doesn't proceed
  stood_not : (instances : Instances) (next n body : ℕ) (rs : List Reference) → Stood tables legal instances next n body rs false → Proceeds legal body ⊥
  stood_not instances next n body rs s count fields view args l =
      let e : s.site.chained ≡ true = s.fits count fields view (acts.Proceed args) (subst (λ z. legal.gives z count fields view (acts.Proceed args)) (sym s.is) l) in
      let f : true ≡ false = sym e ∙ s.chains in
      cc

  members_not : (instances : Instances) (next : ℕ) (v : Invocation) (ms : List Code) → AllByRecursion (λ m. Stood tables legal instances next v.target m.body v.references false) ms → (m : Code) → IsIn m ms → Proceeds legal m.body ⊥
  members_not instances next v [] a m i = absurd i
  members_not instances next v (k ∷ ms) a m (inl e) = subst (λ (z : Code). Proceeds legal z.body ⊥) e (stood_not instances next v.target k.body v.references a.0)
  members_not instances next v (k ∷ ms) a m (inr i) = members_not instances next v ms a.1 m i

  module _ (v : Invocation) (vs : List Invocation) (w : World) (h : List Item) (e : w.invocations ≡ v ∷ vs) (g : G w h) where
    -- the first of the bodies
    may_start : (IsProceed h → FirmAt w h) → (m : Code) → IsIn m v.members → IsNotAgain (Wrote (entries.Run v.target m.place)) h
    may_start f m i p n c is none first = by (subst (λ z. Firm (targets z) (codes z) h) e (f p))
      where
        k : (v.target ≡ n) × ((k : Code) × IsIn k c.pre_destroy.callbacks × (k.place ≡ m.place))
        k = first_code tables h n c.pre_destroy.callbacks v.target m.place first

        by : Firm (targets (v ∷ vs)) (codes (v ∷ vs)) h → ⊥
        by (inl o) = apart.callbacks is.index is.bean c k.1.0 is.known is.is k.1.1 (subst (IsOrdinary tables) (sym k.1.2) (o m i))
        by (inr y) =
            let s = g.0.1.once n y.component (components.Bean is.index) y.owner is.owner (subst (λ z. IsIn (Born z y.component y.owner) h) k.0 y.born) is.born in
            y.some is.index is.bean c s.0 is.known is.is none

    module _ (f : IsProceed h → FirmAt w h) (fine : (m : Code) → IsIn m v.members → Proceeds legal m.body ⊥) where
      one_member : (m : Code) → IsIn m v.members → (k : Completion Given → Prog Given) → ((c : Completion Given) → Idle legal (λ b. ⊥) 0 0 (k c))
          → D (nested (Task.Body (body_of v m)) k) w h (BothPost tables (Task.Rest []) w h) → S (nested (Task.Body (body_of v m)) k) w (fit.Post tables legal (Task.Rest []) w) → T (nested (Task.Body (body_of v m)) k) w h (Leaves (Task.Rest []) w h)
      one_member m i k u d s = (
        g.1.1,
        (
          (d.0, g.1),
          (
            ((d.1, s.0), ((λ n fields view args l. absurd (fine m i n fields view args l)), may_start f m i)),
            λ c w1 h1 g1 p1.
                walks (λ b. ⊥) (targets w1.invocations) (codes w1.invocations) h (λ b x. absurd x) (Still (Task.Rest []) h) (λ k n _. n) 0 0 (k c) w1 h1 (BothPost tables (Task.Rest []) w h) (fit.Post tables legal (Task.Rest []) w)
                (u c) (d.2 c w1 h1 g1.0 p1.0) (s.1 c w1 p1.1.0) g1.1.0 g1.1.1 p1.1.1.1 (refl, refl) p1.1.1.0,
          ),
        ),
      )

      members_tell : (ms : List Code) → ((m : Code) → IsIn m ms → IsIn m v.members) → D (handle (each ms (λ m. call (Task.Body (body_of v m)))) (λ g. reaches v g) throw) w h (BothPost tables (Task.Rest []) w h)
          → S (handle (each ms (λ m. call (Task.Body (body_of v m)))) (λ g. reaches v g) throw) w (fit.Post tables legal (Task.Rest []) w)
          → T (handle (each ms (λ m. call (Task.Body (body_of v m)))) (λ g. reaches v g) throw) w h (Leaves (Task.Rest []) w h)
      members_tell [] i d s = (g.1.1, (g.1.1, ((d.0, (one_change tables h Change.Reach w (Unit {0}) g.1.0 tt, g.1.1)), (d.1, (s, ((λ x z. z), (λ free. free)))))))
      members_tell (m ∷ []) i d s = one_member m (i m (inl refl)) (λ c. handle (complete c) (λ g. reaches v g) throw) (λ c. l_completed c (λ g. reaches v g) (λ a. refl)) d s
      members_tell (m ∷ n ∷ ms) i d s =
          one_member m (i m (inl refl)) (λ c. handle (handle (complete c) (λ _. each (n ∷ ms) (λ m. call (Task.Body (body_of v m)))) throw) (λ g. reaches v g) throw)
          (λ c. idle.then legal (λ b. ⊥) 0 (handle (complete c) (λ _. each (n ∷ ms) (λ m. call (Task.Body (body_of v m)))) throw) (λ g. reaches v g) (l_completed c _ (λ a. l_members v (n ∷ ms) (λ k z. fine k (i k (inr z))))) (λ a. refl)) d s

    -- where an interceptor is next, the chain isn't empty
    firm_chain : (i : ℕ) (chain : List ℕ) → Pre tables (Task.Rest (i ∷ chain)) w h → (o : Instance) → instance_at w v.target ≡ Some o → FirmAt w h
    firm_chain i chain start o f = subst (λ z. Firm (targets z) (codes z) h) (sym e) (by (subst (λ z. AllOneOf tables h z) e g.1.0).0)
      where
        there : core_at v.target w.instances ≡ Some (core_of o)
        there = ap (option_map core_of) f

        asked : InFarewell tables (StartsSo (i ∷ chain) h) (v ∷ vs) w
        asked = subst (λ z. InFarewell tables (StartsSo (i ∷ chain) h) z w) e start

        leaving : IsEnding (fate v.target h) → o.phase ≡ phases.Leaving
        leaving q =
            let z : Some o.phase ≡ Some phases.Leaving = sym (ap phase_of f) ∙ ending_leaving (nat_lt v.target w.next) (phase_at v.target w.instances) (subst IsEnding (g.0.0.1 v.target).fate q) in
            cc

        some : o.phase ≡ phases.Leaving → (b : ℕ) (x : Bean) (c : Managed) → o.component ≡ components.Bean b → tables.bean b ≡ Some x → x.kind ≡ Kind.Class c → c.pre_destroy.chain ≡ [] → ⊥
        some l b x c is known kind none = elim (asked (core_of o) c there l (record { index = b; is = is; bean = x; known = known; kind = kind })) [
          | inl q ↦ (let z : i ∷ chain ≡ [] = q.0 ∙ none in cc)
          | inr q ↦ (let z : i ∷ chain ≡ [] = subst (λ z. IsEndOf (i ∷ chain) (behind_first z)) none q.0 in cc)
        ]

        by : IsOneOf tables h v → Firm (targets (v ∷ vs)) (codes (v ∷ vs)) h
        by (inr o) = inl o.1
        by (inl p) = inr (record { component = o.component; owner = o.owner; born = g.0.1.lives v.target (core_of o) there; some = some (leaving (past_ending tables v.target w h (g.0.0.1 v.target) (core_of o, there) p.0)) })

  abbrev behind_chain : Invocation → Interceptor → ℕ → List ℕ → ℕ → Prog Given
  behind_chain v y code chain n = handle (call (Task.Body (body_at_start n (places.Interceptor y.name v.role) code v.parameters [] chain))) (λ g. ret (given_by v.role g)) throw

  -- the instance of the interceptor is looked for among the dependents
  found : (v : Invocation) (y : Interceptor) (i code : ℕ) (chain : List ℕ) (w : World) (h : List Item) → G w h → FirmAt w h → (ns : List ℕ)
      → D (handle (first_of w i ns) (λ n. behind_chain v y code chain n) throw) w h (BothPost tables (Task.Rest (i ∷ chain)) w h) → S (handle (first_of w i ns) (λ n. behind_chain v y code chain n) throw) w (fit.Post tables legal (Task.Rest (i ∷ chain)) w)
      → T (handle (first_of w i ns) (λ n. behind_chain v y code chain n) throw) w h (Leaves (Task.Rest (i ∷ chain)) w h)
  found v y i code chain w h g firm [] d s = g.1.1
  found v y i code chain w h g firm (n ∷ ns) d s = by (is_of i (instance_at w n)) (λ d s. found v y i code chain w h g firm ns d s) d s
    where
      never_first : IsNotAgain (Wrote (entries.Run n (places.Interceptor y.name v.role))) h
      never_first p m c is none first = let k = first_code tables h m c.pre_destroy.callbacks n (places.Interceptor y.name v.role) first in apart.not_interceptors is.index is.bean c k.1.0 y.name v.role is.known is.is k.1.1 k.1.2

      by : (b : Bool)
          → (D (handle (first_of w i ns) (λ n. behind_chain v y code chain n) throw) w h (BothPost tables (Task.Rest (i ∷ chain)) w h) → S (handle (first_of w i ns) (λ n. behind_chain v y code chain n) throw) w (fit.Post tables legal (Task.Rest (i ∷ chain)) w) → T (handle (first_of w i ns) (λ n. behind_chain v y code chain n) throw) w h (Leaves (Task.Rest (i ∷ chain)) w h))
          → D (handle (elim b as (λ _. Prog ℕ) [ true ↦ ret n | false ↦ first_of w i ns ]) (λ n. behind_chain v y code chain n) throw) w h (BothPost tables (Task.Rest (i ∷ chain)) w h)
          → S (handle (elim b as (λ _. Prog ℕ) [ true ↦ ret n | false ↦ first_of w i ns ]) (λ n. behind_chain v y code chain n) throw) w (fit.Post tables legal (Task.Rest (i ∷ chain)) w)
          → T (handle (elim b as (λ _. Prog ℕ) [ true ↦ ret n | false ↦ first_of w i ns ]) (λ n. behind_chain v y code chain n) throw) w h (Leaves (Task.Rest (i ∷ chain)) w h)
      by true more d s = (
        g.1.1,
        (
          (d.0, g.1),
          (
            ((d.1, s.0), ((λ n fields view args l. firm), never_first)),
            λ c w1 h1 g1 p1.
                walks (λ b. ⊥) (targets w1.invocations) (codes w1.invocations) h (λ b x. absurd x) (Still (Task.Rest (i ∷ chain)) h) (λ k n _. n) 0 0 (handle (complete c) (λ g. ret (given_by v.role g)) throw) w1 h1 (BothPost tables (Task.Rest (i ∷ chain)) w h) (fit.Post tables legal (Task.Rest (i ∷ chain)) w)
                (l_completed c (λ g. ret (given_by v.role g)) (λ a. refl)) (d.2 c w1 h1 g1.0 p1.0) (s.1 c w1 p1.1.0) g1.1.0 g1.1.1 p1.1.1.1 (refl, refl) p1.1.1.0,
          ),
        ),
      )
      by false more d s = more d s

  module _ (i : ℕ) (chain : List ℕ) (w : World) (h : List Item) (g : G w h) (start : Pre tables (Task.Rest (i ∷ chain)) w h) where
    abbrev DR : Prog Given → Type 0
    DR p = D p w h (BothPost tables (Task.Rest (i ∷ chain)) w h)

    abbrev SR : Prog Given → Type 0
    SR p = S p w (fit.Post tables legal (Task.Rest (i ∷ chain)) w)

    abbrev TR : Prog Given → Type 0
    TR p = T p w h (Leaves (Task.Rest (i ∷ chain)) w h)

    abbrev at_coded : Invocation → Interceptor → Option ℕ → Prog Given
    at_coded v y b = handle (require_present b) (λ code. handle (interceptor_of v.target i) (λ n. behind_chain v y code chain n) throw) throw

    dependents : (v : Invocation) (vs : List Invocation) → w.invocations ≡ v ∷ vs → (y : Interceptor) (code : ℕ) (o : Option Instance) → instance_at w v.target ≡ o
        → DR (handle (handle (require_present o) (λ o. see (λ t w. first_of w i o.dependents)) throw) (λ n. behind_chain v y code chain n) throw)
        → SR (handle (handle (require_present o) (λ o. see (λ t w. first_of w i o.dependents)) throw) (λ n. behind_chain v y code chain n) throw)
        → TR (handle (handle (require_present o) (λ o. see (λ t w. first_of w i o.dependents)) throw) (λ n. behind_chain v y code chain n) throw)
    dependents v vs e y code None f d s = g.1.1
    dependents v vs e y code (Some o) f d s = (g.1.1, found v y i code chain w h g (firm_chain v vs w h e g i chain start o f) o.dependents d s)

    coded : (v : Invocation) (vs : List Invocation) → w.invocations ≡ v ∷ vs → (y : Interceptor) (b : Option ℕ) → DR (at_coded v y b) → SR (at_coded v y b) → TR (at_coded v y b)
    coded v vs e y None d s = g.1.1
    coded v vs e y (Some code) d s = (g.1.1, dependents v vs e y code (instance_at w v.target) refl d s)

    known : (v : Invocation) (vs : List Invocation) → w.invocations ≡ v ∷ vs → (o : Option Interceptor)
        → DR (handle (require_present o) (λ y. at_coded v y (y.body v.role)) throw) → SR (handle (require_present o) (λ y. at_coded v y (y.body v.role)) throw) → TR (handle (require_present o) (λ y. at_coded v y (y.body v.role)) throw)
    known v vs e None d s = g.1.1
    known v vs e (Some y) d s = coded v vs e y (y.body v.role) d s

    innermost : (vs : List Invocation) → w.invocations ≡ vs
        → DR (handle (top vs) (λ v. handle (Rattle.cdi_machine.specs.Programs.interceptor_at i) (λ y. at_coded v y (y.body v.role)) throw) throw)
        → SR (handle (top vs) (λ v. handle (Rattle.cdi_machine.specs.Programs.interceptor_at i) (λ y. at_coded v y (y.body v.role)) throw) throw)
        → TR (handle (top vs) (λ v. handle (Rattle.cdi_machine.specs.Programs.interceptor_at i) (λ y. at_coded v y (y.body v.role)) throw) throw)
    innermost [] e d s = g.1.1
    innermost (v ∷ vs) e d s = (g.1.1, known v vs e (tables.interceptor i) d s)

  rest_tells : (chain : List ℕ) (w : World) (h : List Item) → G w h → Asks (Task.Rest chain) w h → T (run_rest chain) w h (Leaves (Task.Rest chain) w h)
  rest_tells [] w h g q = (g.1.1, by w.invocations refl q.0.1.1 (all_born tables (Task.Rest []) w h g.0 q.0.0) (task_safe tables legal fits (moves tables legal) (Task.Rest []) w q.0.1))
    where
      by : (vs : List Invocation) → w.invocations ≡ vs → CanRest tables legal w.instances w.next vs []
          → D (handle (top vs) (λ v. handle (each v.members (λ m. call (Task.Body (body_of v m)))) (λ g. reaches v g) throw) throw) w h (BothPost tables (Task.Rest []) w h)
          → S (handle (top vs) (λ v. handle (each v.members (λ m. call (Task.Body (body_of v m)))) (λ g. reaches v g) throw) throw) w (fit.Post tables legal (Task.Rest []) w)
          → T (handle (top vs) (λ v. handle (each v.members (λ m. call (Task.Body (body_of v m)))) (λ g. reaches v g) throw) throw) w h (Leaves (Task.Rest []) w h)
      by [] e r d s = g.1.1
      by (v ∷ vs) e r d s = members_tell v vs w h e g q.1 (members_not w.instances w.next v v.members r.1) v.members (λ m i. i) d s
  rest_tells (i ∷ chain) w h g q = (g.1.1, innermost i chain w h g q.0.0 w.invocations refl (all_born tables (Task.Rest (i ∷ chain)) w h g.0 q.0.0) (task_safe tables legal fits (moves tables legal) (Task.Rest (i ∷ chain)) w q.0.1))

  -- ---- acts

  -- what runs on an instance of a bean doesn't proceed
  bean_not : (w : World) (z : Running) (o : Instance) (b : ℕ) → instance_at w z.instance ≡ Some o → o.component ≡ components.Bean b → CanRun tables legal w.instances w.next w.invocations z → Proceeds legal z.body ⊥
  bean_not w z o b there is k count fields view args l = by k.stood.site refl k.stood.home
    where
      chained : k.stood.site.chained ≡ true
      chained = k.stood.fits count fields view (acts.Proceed args) (subst (λ z. legal.gives z count fields view (acts.Proceed args)) (sym k.stood.is) l)

      by : (site : Site) → k.stood.site ≡ site → Home tables legal w.instances z.instance site → ⊥
      by site e (Home.on_bean c class points body served lives f) = let y : true ≡ false = sym chained ∙ ap (λ (s : Site). s.chained) (e ∙ f) in cc
      by site e (Home.on_interceptor i y body known lives f) =
          let q : Some o ≡ Some lives.0 = sym there ∙ lives.1 in
          let u : o ≡ lives.0 = cc in
          let v : components.Bean b ≡ components.Interceptor i = sym is ∙ (ap (λ (x : Instance). x.component) u ∙ lives.2) in
          cc

  module _ (r : Running) (w0 : World) (h0 : List Item) (g0 : G w0 h0) (firm : Proceeds legal r.body (FirmAt w0 h0)) where
    abbrev DA : Prog Given → World → List Item → Type 0
    DA p w h = D p w h (BothPost tables (Task.Acts r) w0 h0)

    abbrev SA : Prog Given → World → Type 0
    SA p w = S p w (fit.Post tables legal (Task.Acts r) w0)

    abbrev TA : Prog Given → World → List Item → Type 0
    TA p w h = T p w h (Leaves (Task.Acts r) w0 h0)

    abbrev after : Running → Completion Given → Prog Given
    after y c = handle (answer_of c) (λ answer. call (Task.Acts (with_answer y answer))) throw

    abbrev tried : Running → Prog Given → Prog Given
    tried y p = handle (attempt p) (λ c. after y c) throw

    ended : (c : Completion Given) (w : World) (h : List Item) → G w h → DA (complete c) w h → SA (complete c) w → Grows h0 h → (IsProceed h → ⊥) → TA (complete c) w h
    ended (Gave a) w h g d s m free = (g.1.1, (g, (d.1, (s, (m, free)))))
    ended (Threw x) w h g d s m free = (g.1.1, (g, (d.1, (s, (m, free)))))

    -- the next act
    goes_on : (y : Running) (w : World) (h : List Item) → Proceeds legal y.body (FirmAt w h) → AllOneOf tables h w.invocations → E h → Grows h0 h → DA (call (Task.Acts y)) w h → SA (call (Task.Acts y)) w → TA (call (Task.Acts y)) w h
    goes_on y w h f l x m d s = (x, ((d.0, (l, x)), (((d.1, s.0), f), λ c w1 h1 g1 p1. ended c w1 h1 g1 (d.2 c w1 h1 g1.0 p1.0) (s.1 c w1 p1.1.0) (λ z i. p1.1.1.0 z (m z i)) p1.1.1.1)))

    answered : (y : Running) (c : Completion Given) (w : World) (h : List Item) → Proceeds legal y.body (FirmAt w h) → AllOneOf tables h w.invocations → E h → Grows h0 h → DA (after y c) w h → SA (after y c) w → TA (after y c) w h
    answered y (Gave (Given.Result v)) w h f l x m d s = goes_on (with_answer y (answers.Done v)) w h f l x m d s
    answered y (Gave (Given.Number n)) w h f l x m d s = goes_on (with_answer y (answers.Done values.Null)) w h f l x m d s
    answered y (Gave Given.Empty) w h f l x m d s = goes_on (with_answer y (answers.Done values.Null)) w h f l x m d s
    answered y (Threw z) w h f l x m d s = (x, by (tables.text z) d s)
      where
        by : (t : Option (List ℕ)) → DA (handle (handle (require_present t) (λ text. ret (answers.Threw z text)) throw) (λ answer. call (Task.Acts (with_answer y answer))) throw) w h → SA (handle (handle (require_present t) (λ text. ret (answers.Threw z text)) throw) (λ answer. call (Task.Acts (with_answer y answer))) throw) w
            → TA (handle (handle (require_present t) (λ text. ret (answers.Threw z text)) throw) (λ answer. call (Task.Acts (with_answer y answer))) throw) w h
        by None d s = x
        by (Some text) d s = goes_on (with_answer y (answers.Threw z text)) w h f l x m d s

    module _ (a : Act) where
      abbrev w2 : World
      w2 = with_entry (entries.Did a) w0

      abbrev h2 : List Item
      h2 = Wrote (entries.Did a) ∷ h0

      all2 : AllOneOf tables h2 w2.invocations
      all2 = later tables (Wrote (entries.Did a)) h0 w0.invocations g0.1.0

      own_firm : (b : ℕ) → b ≡ r.body → Proceeds legal b (FirmAt w0 h0)
      own_firm b e = subst (λ z. Proceeds legal z (FirmAt w0 h0)) (sym e) firm

      -- an act for which nothing is asked
      idly : (p : Prog Given) → Idle legal (λ b. b ≡ r.body) 0 0 p → (IsProceed h2 → ⊥) → DA p w2 h2 → SA p w2 → TA p w2 h2
      idly p u free d s = walks (λ b. b ≡ r.body) (targets w0.invocations) (codes w0.invocations) h0 own_firm (λ k. IsProceed k → ⊥) (λ k n. n) 0 0 p w2 h2 (BothPost tables (Task.Acts r) w0 h0) (fit.Post tables legal (Task.Acts r) w0) u d s all2 (tt, g0.1.1) free (refl, refl) (λ x i. inr i)

    -- ---- a body proceeds

    module _ (args : Option (List Value)) (f : FirmAt w0 h0) where
      abbrev again : Running
      again = after_act r (acts.Proceed args)

      abbrev h3 : List Item
      h3 = Wrote (entries.Did (acts.Proceed args)) ∷ h0

      grown : Grows h0 h3
      grown x i = inr i

      rest_call : (w : World) → AreSame w0 w → AllOneOf tables h3 w.invocations → DA (tried again (call (Task.Rest r.rest))) w h3 → SA (tried again (call (Task.Rest r.rest))) w → TA (tried again (call (Task.Rest r.rest))) w h3
      rest_call w same l d s = (
        (tt, g0.1.1),
        (
          (d.0, (l, (tt, g0.1.1))),
          (
            ((d.1, s.0), λ i. firm_same w0 w h3 same (firm_grows (targets w0.invocations) (codes w0.invocations) h0 h3 grown f)),
            λ c w1 h1 g1 p1.
                back c w1 h1 g1 (λ x i. p1.1.1.0 x (grown x i)) ((post_rel (Task.Rest r.rest) w w1 h3 h1 c p1.0.0).targets ∙ same.0, (post_rel (Task.Rest r.rest) w w1 h3 h1 c p1.0.0).members ∙ same.1) (d.2 c w1 h1 g1.0 p1.0) (s.1 c w1 p1.1.0),
          ),
        ),
      )
        where
          back : (c : Completion Given) (w1 : World) (h1 : List Item) → G w1 h1 → Grows h0 h1 → AreSame w0 w1 → DA (tried again (complete c)) w1 h1 → SA (tried again (complete c)) w1 → TA (tried again (complete c)) w1 h1
          back (Gave x) w1 h1 g1 m n d s = answered again (Gave x) w1 h1 (λ count fields view args l. firm_same w0 w1 h1 n (firm_grows (targets w0.invocations) (codes w0.invocations) h0 h1 m f)) g1.1.0 g1.1.1 m d s
          back (Threw x) w1 h1 g1 m n d s = answered again (Threw x) w1 h1 (λ count fields view args l. firm_same w0 w1 h1 n (firm_grows (targets w0.invocations) (codes w0.invocations) h0 h1 m f)) g1.1.0 g1.1.1 m d s

      abbrev w3 : World
      w3 = with_entry (entries.Did (acts.Proceed args)) w0

      refused : (x : Name) → DA (after again (Threw x)) w3 h3 → SA (after again (Threw x)) w3 → TA (after again (Threw x)) w3 h3
      refused x d s = answered again (Threw x) w3 h3 (λ count fields view args l. firm_grows (targets w0.invocations) (codes w0.invocations) h0 h3 grown f) (all2 (acts.Proceed args)) (tt, g0.1.1) grown d s

      replaced : (xs : Option (List Value)) → DA (tried again (handle (replace_parameters xs) (λ _. call (Task.Rest r.rest)) throw)) w3 h3 → SA (tried again (handle (replace_parameters xs) (λ _. call (Task.Rest r.rest)) throw)) w3 → TA (tried again (handle (replace_parameters xs) (λ _. call (Task.Rest r.rest)) throw)) w3 h3
      replaced None d s = rest_call w3 (refl, refl) (all2 (acts.Proceed args)) d s
      replaced (Some xs) d s = (
        (tt, g0.1.1),
        rest_call (after_change (Change.Replace xs) w3) (on_top_same _ (λ v. refl) (λ v. refl) w0.invocations) (one_change tables h3 (Change.Replace xs) w3 (Unit {0}) (all2 (acts.Proceed args)) tt) d s,
      )

      abbrev last : Prog Given
      last = handle (replace_parameters args) (λ _. call (Task.Rest r.rest)) throw

      once_only : (c : Bool) → DA (tried again (handle (require c built_in.IllegalStateException) (λ _. last) throw)) w3 h3 → SA (tried again (handle (require c built_in.IllegalStateException) (λ _. last) throw)) w3 → TA (tried again (handle (require c built_in.IllegalStateException) (λ _. last) throw)) w3 h3
      once_only true d s = replaced args d s
      once_only false d s = refused (number_of built_in.IllegalStateException) d s

      as_many : (v : Invocation) (c : Bool) → DA (tried again (handle (require c built_in.IllegalArgumentException) (λ _. handle (require (repeats v.role || not r.proceeded) built_in.IllegalStateException) (λ _. last) throw) throw)) w3 h3
          → SA (tried again (handle (require c built_in.IllegalArgumentException) (λ _. handle (require (repeats v.role || not r.proceeded) built_in.IllegalStateException) (λ _. last) throw) throw)) w3
          → TA (tried again (handle (require c built_in.IllegalArgumentException) (λ _. handle (require (repeats v.role || not r.proceeded) built_in.IllegalStateException) (λ _. last) throw) throw)) w3 h3
      as_many v true d s = once_only (repeats v.role || not r.proceeded) d s
      as_many v false d s = refused (number_of built_in.IllegalArgumentException) d s

      abbrev checked : Invocation → Prog Given
      checked v = handle (require (takes_as_many v.parameters args) built_in.IllegalArgumentException) (λ _. handle (require (repeats v.role || not r.proceeded) built_in.IllegalStateException) (λ _. last) throw) throw

      proceeds : DA (tried again (proceed r args)) w3 h3 → SA (tried again (proceed r args)) w3 → TA (tried again (proceed r args)) w3 h3
      proceeds d s = ((tt, g0.1.1), by w0.invocations d s)
        where
          by : (vs : List Invocation) → DA (tried again (handle (top vs) (λ v. checked v) throw)) w3 h3 → SA (tried again (handle (top vs) (λ v. checked v) throw)) w3 → TA (tried again (handle (top vs) (λ v. checked v) throw)) w3 h3
          by [] d s = (tt, g0.1.1)
          by (v ∷ vs) d s = as_many v (takes_as_many v.parameters args) d s

    -- ---- a body calls a method of its own instance

    module _ (name : Name) (args : List Value) where
      abbrev w4 : World
      w4 = with_entry (entries.Did (acts.Own name args)) w0

      abbrev h4 : List Item
      h4 = Wrote (entries.Did (acts.Own name args)) ∷ h0

      abbrev body_for : Method → Running
      body_for m = body_at_start r.instance m.code.place m.code.body args [] []

      abbrev called : Method → Prog Given
      called m = handle (expect (nat_eq (length args) m.count)) (λ _. call (Task.Body (body_for m))) throw

      abbrev DO : Prog Given → Type 0
      DO p = DA (tried r p) w4 h4

      abbrev SO : Prog Given → Type 0
      SO p = SA (tried r p) w4

      abbrev TO : Prog Given → Type 0
      TO p = TA (tried r p) w4 h4

      own_call : (m : Method) (o : Instance) (b : ℕ) → instance_at w0 r.instance ≡ Some o → o.component ≡ components.Bean b → DO (call (Task.Body (body_for m))) → SO (call (Task.Body (body_for m))) → TO (call (Task.Body (body_for m)))
      own_call m o b e is d s = (
        (tt, g0.1.1),
        (
          (d.0, (all2 (acts.Own name args), (tt, g0.1.1))),
          (
            ((d.1, s.0), ((λ count fields view xs l. absurd (bean_not w4 (body_for m) o b e is s.0.1 count fields view xs l)), (λ p. absurd p))),
            λ c w1 h1 g1 p1.
                walks (λ b. b ≡ r.body) (targets w1.invocations) (codes w1.invocations) h0
                (λ b q. subst (λ z. Proceeds legal z (Firm (targets w1.invocations) (codes w1.invocations) h0)) (sym q) (λ count fields view xs l. firm_same w0 w1 h0 ((post_rel (Task.Body (body_for m)) w4 w1 h4 h1 c p1.0.0).targets, (post_rel (Task.Body (body_for m)) w4 w1 h4 h1 c p1.0.0).members) (firm count fields view xs l)))
                (λ k. IsProceed k → ⊥) (λ k n. n) 0 0 (tried r (complete c)) w1 h1 (BothPost tables (Task.Acts r) w0 h0) (fit.Post tables legal (Task.Acts r) w0) (idle_after c)
                (d.2 c w1 h1 g1.0 p1.0) (s.1 c w1 p1.1.0) g1.1.0 g1.1.1 p1.1.1.1 (refl, refl) (λ x i. p1.1.1.0 x (inr i)),
          ),
        ),
      )
        where
          idle_after : (c : Completion Given) → Idle legal (λ b. b ≡ r.body) 0 0 (tried r (complete c))
          idle_after (Gave a) = idle.l_after legal (λ b. b ≡ r.body) r (Gave a) refl
          idle_after (Threw x) = idle.l_after legal (λ b. b ≡ r.body) r (Threw x) refl

      abbrev in_kind : Kind → Prog Given
      in_kind k = handle (method_in k name) (λ m. called m) throw

      abbrev of_bean : Component → Prog Given
      of_bean component = handle (handle (bean_of component) (λ bean. method_in bean.kind name) throw) (λ m. called m) throw

      counted : (m : Method) (o : Instance) (b : ℕ) → instance_at w0 r.instance ≡ Some o → o.component ≡ components.Bean b → (c : Bool)
          → DO (handle (expect c) (λ _. call (Task.Body (body_for m))) throw) → SO (handle (expect c) (λ _. call (Task.Body (body_for m))) throw) → TO (handle (expect c) (λ _. call (Task.Body (body_for m))) throw)
      counted m o b e is true d s = own_call m o b e is d s
      counted m o b e is false d s = (tt, g0.1.1)

      listed : (o : Instance) (b : ℕ) → instance_at w0 r.instance ≡ Some o → o.component ≡ components.Bean b → (x : Option Method)
          → DO (handle (require_present x) (λ m. called m) throw) → SO (handle (require_present x) (λ m. called m) throw) → TO (handle (require_present x) (λ m. called m) throw)
      listed o b e is None d s = (tt, g0.1.1)
      listed o b e is (Some m) d s = counted m o b e is (nat_eq (length args) m.count) d s

      kinds : (o : Instance) (b : ℕ) → instance_at w0 r.instance ≡ Some o → o.component ≡ components.Bean b → (k : Kind) → DO (in_kind k) → SO (in_kind k) → TO (in_kind k)
      kinds o b e is (Kind.Class c) d s = listed o b e is (at c.methods name) d s
      kinds o b e is (Kind.Producer p) d s = (tt, g0.1.1)

      beans : (o : Instance) (b : ℕ) → instance_at w0 r.instance ≡ Some o → o.component ≡ components.Bean b → (x : Option Bean)
          → DO (handle (handle (require_present x) (λ bean. method_in bean.kind name) throw) (λ m. called m) throw) → SO (handle (handle (require_present x) (λ bean. method_in bean.kind name) throw) (λ m. called m) throw) → TO (handle (handle (require_present x) (λ bean. method_in bean.kind name) throw) (λ m. called m) throw)
      beans o b e is None d s = (tt, g0.1.1)
      beans o b e is (Some x) d s = kinds o b e is x.kind d s

      components_of : (o : Instance) → instance_at w0 r.instance ≡ Some o → (c : Component) → o.component ≡ c → DO (of_bean c) → SO (of_bean c) → TO (of_bean c)
      components_of o e (components.Interceptor i) is d s = (tt, g0.1.1)
      components_of o e (components.Bean b) is d s = ((tt, g0.1.1), beans o b e is (tables.bean b) d s)

      owns : DO (carry_out r (acts.Own name args)) → SO (carry_out r (acts.Own name args)) → TO (carry_out r (acts.Own name args))
      owns d s = ((tt, g0.1.1), by (instance_at w0 r.instance) refl d s)
        where
          by : (x : Option Instance) → instance_at w0 r.instance ≡ x
              → DO (handle (handle (require_present x) (λ o. handle (bean_of o.component) (λ bean. method_in bean.kind name) throw) throw) (λ m. called m) throw)
              → SO (handle (handle (require_present x) (λ o. handle (bean_of o.component) (λ bean. method_in bean.kind name) throw) throw) (λ m. called m) throw)
              → TO (handle (handle (require_present x) (λ o. handle (bean_of o.component) (λ bean. method_in bean.kind name) throw) throw) (λ m. called m) throw)
          by None e d s = (tt, g0.1.1)
          by (Some o) e d s = components_of o e o.component refl d s

    -- ---- each act

    usual : (a : Act) → idle.IsUsual a → (after_act r a).body ≡ r.body → (IsProceed (h2 a) → ⊥) → DA (tried (after_act r a) (carry_out r a)) (w2 a) (h2 a) → SA (tried (after_act r a) (carry_out r a)) (w2 a) → TA (tried (after_act r a) (carry_out r a)) (w2 a) (h2 a)
    usual a u e free d s = idly a (tried (after_act r a) (carry_out r a)) (idle.l_told legal (λ b. b ≡ r.body) r a u e) free d s

    performed : (a : Act) (count : ℕ) (o : Instance) → legal.gives r.body count o.fields r.view a → DA (perform r (written_act tables a)) (w2 (written_act tables a)) (h2 (written_act tables a)) → SA (perform r (written_act tables a)) (w2 (written_act tables a)) → TA (perform r (written_act tables a)) (w2 (written_act tables a)) (h2 (written_act tables a))
    performed (acts.Set field v) count o l d s = usual (acts.Set field v) tt refl (λ i. i) d s
    performed (acts.Call via name args) count o l d s = usual (acts.Call via name args) tt refl (λ i. i) d s
    performed (acts.Own name args) count o l d s = owns name args d s
    performed (acts.Read via) count o l d s = usual (acts.Read via) tt refl (λ i. i) d s
    performed (acts.Write via v) count o l d s = usual (acts.Write via v) tt refl (λ i. i) d s
    performed (acts.Fire class qualifiers v) count o l d s = usual (acts.Fire class (tables.written qualifiers) v) tt refl (λ i. i) d s
    performed (acts.Proceed args) count o l d s = proceeds args (firm count o.fields r.view args l) d s
    performed (acts.Find k) count o l d s = idly (acts.Find k) (perform r (acts.Find k)) (idle.l_looked legal (λ b. b ≡ r.body) r k refl) (λ i. i) d s
    performed (acts.Keep key v) count o l d s = usual (acts.Keep key v) tt refl (λ i. i) d s
    performed (acts.Peek key) count o l d s = usual (acts.Peek key) tt refl (λ i. i) d s
    performed (acts.Destroy k) count o l d s = usual (acts.Destroy k) tt refl (λ i. i) d s
    performed (acts.Give v) count o l d s = idly (acts.Give v) (perform r (acts.Give v)) refl (λ i. i) d s
    performed (acts.Throw x) count o l d s = idly (acts.Throw x) (perform r (acts.Throw x)) refl (λ i. i) d s

    acted : (x : Option Instance) → DA (handle (require_present x) (λ o. act r.body o.fields r.view (λ a. perform r a)) throw) w0 h0 → SA (handle (require_present x) (λ o. act r.body o.fields r.view (λ a. perform r a)) throw) w0 → TA (handle (require_present x) (λ o. act r.body o.fields r.view (λ a. perform r a)) throw) w0 h0
    acted None d s = g0.1.1
    acted (Some o) d s = (g0.1.1, λ count a l. performed a count o l (d.1 (written_act tables a)) (s count a l))

  acts_tell : (r : Running) (w : World) (h : List Item) → G w h → Asks (Task.Acts r) w h → T (carry_on r) w h (Leaves (Task.Acts r) w h)
  acts_tell r w h g q = (g.1.1, acted r w h g q.1 (instance_at w r.instance) (all_born tables (Task.Acts r) w h g.0 q.0.0) (task_safe tables legal fits (moves tables legal) (Task.Acts r) w q.0.1))

  -- ---- a creation

  create_tells : (b : ℕ) (owner : Owner) (w : World) (h : List Item) → G w h → Asks (Task.Create b owner) w h → T (create b owner) w h (Leaves (Task.Create b owner) w h)
  create_tells b owner w h g q = (g.1.1, by (tables.bean b) refl (all_born tables (Task.Create b owner) w h g.0 q.0.0) (task_safe tables legal fits (moves tables legal) (Task.Create b owner) w q.0.1))
    where
      by : (o : Option Bean) → tables.bean b ≡ o
          → D (handle (require_present o) (λ x. handle (begin_creation x.place (components.Bean b) owner (first_fields x.kind)) (λ m. create_by m (make m x x.kind)) throw) throw) w h (BothPost tables (Task.Create b owner) w h)
          → S (handle (require_present o) (λ x. handle (begin_creation x.place (components.Bean b) owner (first_fields x.kind)) (λ m. create_by m (make m x x.kind)) throw) throw) w (fit.Post tables legal (Task.Create b owner) w)
          → T (handle (require_present o) (λ x. handle (begin_creation x.place (components.Bean b) owner (first_fields x.kind)) (λ m. create_by m (make m x x.kind)) throw) throw) w h (Leaves (Task.Create b owner) w h)
      by None e d s = g.1.1
      by (Some x) e d s =
          walks (λ b. ⊥) (targets w.invocations) (codes w.invocations) h (λ b x. absurd x) (λ k. IsProceed k → ⊥) (λ k n. n) 0 0 (handle (begin_creation x.place (components.Bean b) owner (first_fields x.kind)) (λ m. create_by m (make m x x.kind)) throw) w h (BothPost tables (Task.Create b owner) w h) (fit.Post tables legal (Task.Create b owner) w)
          (idle.l_created legal (λ b. ⊥) tables b owner x (kind q.0.1.1)) d s g.1.0 g.1.1 q.1 (refl, refl) (λ x i. i)
        where
          kind : FitsBean tables legal b → Rattle.cdi_whole.specs.Fits.FitsKind tables legal x.kind
          kind served =
              let y : Some served.bean ≡ Some x = sym served.known ∙ e in
              let z : served.bean ≡ x = cc in
              subst (λ (u : Bean). Rattle.cdi_whole.specs.Fits.FitsKind tables legal u.kind) z served.kind

  -- ---- all tasks

  pub none_again : (t : Task) (w : World) (h : List Item) → G w h → Asks t w h → T (machine t) w h (Leaves t w h)
  none_again (Task.Obtain b) w h g q = quietly_tells (Task.Obtain b) w h (idle.l_obtain legal (λ b. ⊥) 0 b) g q.0 q.1
  none_again (Task.Create b owner) w h g q = create_tells b owner w h g q
  none_again (Task.Intercept i m) w h g q = quietly_tells (Task.Intercept i m) w h (idle.l_intercepted legal (λ b. ⊥) i m) g q.0 q.1
  none_again (Task.Rest chain) w h g q = rest_tells chain w h g q
  none_again (Task.Body r) w h g q = body_tells r w h g q
  none_again (Task.Acts r) w h g q = acts_tell r w h g q
  none_again (Task.Destroy n) w h g q = quietly_tells (Task.Destroy n) w h (idle.l_destroy legal (λ b. ⊥) n) g q.0 q.1
  none_again (Task.Release n) w h g q = quietly_tells (Task.Release n) w h (idle.l_releases legal (λ b. ⊥) 0 n) g q.0 q.1
  none_again (Task.Fire class qualifiers v) w h g q = quietly_tells (Task.Fire class qualifiers v) w h (idle.l_fire legal (λ b. ⊥) 0 class qualifiers v) g q.0 q.1
  none_again (Task.Notify os v) w h g q = quietly_tells (Task.Notify os v) w h (idle.l_notify legal (λ b. ⊥) 0 os v) g q.0 q.1
  none_again Task.Dismiss w h g q = quietly_tells Task.Dismiss w h (idle.l_dismiss legal (λ b. ⊥) 0) g q.0 q.1
  none_again (Task.Clear c) w h g q = quietly_tells (Task.Clear c) w h (idle.l_clears legal (λ b. ⊥) 0 c) g q.0 q.1
