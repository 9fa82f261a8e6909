-- The first body of a pre-destroy chain and its callbacks starts right behind the mark of the destruction, and nowhere else.
use Rattle.std.proofs.Common.{ℕ, ◌≡◌, List, [], ◌∷◌, inl, inr, Option, Some, None, Bool, refl, sym, ap, ◌∙◌, subst}
use Rattle.std.specs.Prelude.{nat_lt, option_map, map}
use Rattle.cdi_base.specs.declared.entry.Entry.{Entry}
use Rattle.cdi_base.specs.declared.entry.Entry.TheVariants as entries
use Rattle.cdi_base.specs.declared.place.Place.{Place}
use Rattle.cdi_base.specs.declared.place.Place.TheVariants as places
use Rattle.cdi_base.specs.declared.place.InterceptorMethod.TheVariants as roles
use Rattle.cdi_base.specs.Maps.{at}
use Rattle.cdi_store.specs.declared.instance.Component.TheVariants as components
use Rattle.cdi_store.specs.declared.instance.Owner.TheVariants as owners
use Rattle.cdi_store.specs.declared.instance.Instance.{Instance}
use Rattle.cdi_store.specs.declared.instance.Phase.{Phase}
use Rattle.cdi_store.specs.declared.instance.Phase.TheVariants as phases
use Rattle.cdi_machine.specs.Tables.{Tables, Code, Managed, Interceptor}
use Rattle.cdi_machine.specs.World.{World, Change, Invocation, after_change, with_entry, at_begin}
use Rattle.cdi_machine.specs.Programs.{Task, Completion, Prog, ret, throw, cut, miss, see, change, tick, mark, act, choose, nested, candidates}
use Rattle.cdi_machine.specs.Commands.{Command, task}
use Rattle.cdi_machine.specs.Machine.{machine}
use Rattle.cdi_machine.specs.Runs.{Legal, Outcome, Runs}
use Rattle.cdi_machine.specs.Container.{State}
use Rattle.cdi_ledger.specs.Ledger.{Item, Wrote, Between, Born, with_birth, fate, items_of}
use Rattle.cdi_ledger.specs.Stories.{Story}
use Rattle.cdi_ledger.specs.Whose.{IsIn}
use Rattle.cdi_ledger.specs.Ends.{Each, IsOfClass}
use Rattle.cdi_ledger.specs.Callbacks.{IsOrdinary, PlacesOfBodiesAreApart, FirstsStandOnce, IsMark, IsFirstOf, IsBegun, IsBegunOnly, BeginsOnlyAtMark, BeginsOnlyAtMarkIfShort}
use Rattle.cdi_ledger.proofs.Judge.{Does, sound, Note, guard_map, note_map}
use Rattle.cdi_ledger.proofs.Phases.{phase_of}
use Rattle.cdi_ledger.proofs.Plain.{Sane, stands}
use Rattle.cdi_ledger.proofs.Ledgered as ledgered
use Rattle.cdi_ledger.proofs.Past.{Past}
use Rattle.cdi_ledger.proofs.Fronts.{anything, also_short}
use Rattle.cdi_ledger.proofs.Cores.{Core, core_of, core_at}
use Rattle.cdi_ledger.proofs.Owed.{Ok, Pre, AreParting, IsClassOf, InFarewell, StartsSo, IsEndOf, behind_first, CanStart, AtMember, IsMemberAt, IsAttendant, IsAttending, IsKnown, IsThere}
use Rattle.cdi_ledger.proofs.Tops.{Tidy}
use Rattle.cdi_ledger.proofs.Settled.{tidy_story, sane_story, begin_tidy, not_halted}
use Rattle.cdi_ledger.proofs.Nesting.{BothPost}
use Rattle.cdi_ledger.proofs.Births.{Known, KG, all_born, born_command, known_story, known_begin}
use Rattle.cdi_ledger.proofs.Farewells.{AllParted, Parted, parted_change, nobody_of}
use Rattle.cdi_ledger.proofs.Callbacks.{IsOneOf, AllOneOf, code_of, at_in, later, later_birth, one_change, nobody}

end_in : (i : ℕ) (rest chain : List ℕ) → IsEndOf (i ∷ rest) chain → IsIn i chain
end_in i rest [] e = absurd (cc)
end_in i rest (j ∷ chain) (inl e) = inl (let y : i ≡ j = cc in sym y)
end_in i rest (j ∷ chain) (inr e) = inr (end_in i rest chain e)

-- what had its end, and is there, is leaving
past_leaving : (n : ℕ) (w : World) (h : List Item) (k : Core) → Sane n w h → core_at n w.instances ≡ Some k → Past (fate n h) → k.phase ≡ phases.Leaving
past_leaving n w h k s e p = by (at w.instances n) (nat_lt n w.next) e (subst Past s.fate p)
  where
    over : (b : Bool) (p : Phase) → Past (stands b (Some p)) → p ≡ phases.Leaving
    over b phases.Leaving q = refl
    over b phases.New q = absurd q
    over b phases.Ready q = absurd q

    by : (o : Option Instance) (b : Bool) → option_map core_of o ≡ Some k → Past (stands b (phase_of o)) → k.phase ≡ phases.Leaving
    by None b e q = absurd (cc)
    by (Some o) b e q = let y : core_of o ≡ k = cc in ap (λ (z : Core). z.phase) (sym y) ∙ over b o.phase q

module _ (tables : Tables) (apart : PlacesOfBodiesAreApart tables) (once : FirstsStandOnce tables) where
  module _ (n : ℕ) (c : Managed) (w : World) (h : List Item) (g : KG tables w h) (is : IsOfClass tables h n c) where
    -- its core is of the class
    class_of : (k : Core) → core_at n w.instances ≡ Some k → IsClassOf tables k c
    class_of k e = record { index = is.index; is = (g.1.once n k.component (components.Bean is.index) k.owner is.owner (g.1.lives n k e) is.born).0; bean = is.bean; known = is.known; kind = is.is }

    -- what the innermost invocation is asked, if it is the instance's
    asked : (P : ℕ → Managed → Type 0) (v : Invocation) (vs : List Invocation) (k : Core) → v.target ≡ n → core_at n w.instances ≡ Some k → Past (fate n h) → InFarewell tables P (v ∷ vs) w → P n c
    asked P v vs k e f p i = subst (λ z. P z c) e (i k c (subst (λ z. core_at z w.instances ≡ Some k) (sym e) f) (past_leaving n w h k (g.0.1 n) f p) (class_of k f))

    -- ---- an interceptor is the first

    module _ (i : ℕ) (chain : List ℕ) (ec : c.pre_destroy.chain ≡ i ∷ chain) (m : ℕ) (place : Place) (y : Interceptor) (born : IsIn (Born m (components.Interceptor i) (owners.Instance n)) h) (ep : place ≡ places.Interceptor y.name roles.PreDestroy) where
      no_ordinary : IsOrdinary tables place → ⊥
      no_ordinary o = apart.interceptors y.name roles.PreDestroy (subst (IsOrdinary tables) ep o)

      no_member : (vs : List Invocation) → AllOneOf tables h vs → IsMemberAt tables m place w h vs → ⊥
      no_member [] a x = x
      no_member (v ∷ vs) a x = by a.0
        where
          by : IsOneOf tables h v → ⊥
          by (inl p) = let k = p.1 place (at_in tables place v.members w h x.1) in apart.not_interceptors k.index k.bean k.class k.code y.name roles.PreDestroy k.known k.kind k.is_in (k.stands ∙ ep)
          by (inr o) = let k = code_of tables place v.members (at_in tables place v.members w h x.1) in no_ordinary (subst (IsOrdinary tables) k.2 (o.1 k.0 k.1))

      attendant : (vs : List Invocation) → w.invocations ≡ vs → AllOneOf tables h vs → IsAttending tables m place w h vs → IsMark n h
      attendant [] e a x = absurd x
      attendant (v ∷ vs) e a x = by a.0
        where
          same : (x.core.component ≡ components.Interceptor i) × (x.core.owner ≡ owners.Instance n)
          same = g.1.once m x.core.component (components.Interceptor i) x.core.owner (owners.Instance n) (g.1.lives m x.core x.there) born

          target : v.target ≡ n
          target = let o : owners.Instance v.target ≡ owners.Instance n = sym x.owner ∙ same.1 in cc

          index : x.index ≡ i
          index = let o : components.Interceptor x.index ≡ components.Interceptor i = sym x.of ∙ same.0 in cc

          role : roles.PreDestroy ≡ v.role
          role = let o : places.Interceptor y.name roles.PreDestroy ≡ places.Interceptor x.interceptor.name v.role = sym ep ∙ x.stands in cc

          decide : StartsSo (x.index ∷ x.rest) h n c → IsMark n h
          decide (inl q) = q.1
          decide (inr q) = absurd (once.interceptors is.index is.bean c i chain is.known is.is ec (subst (λ z. IsIn z chain) index (end_in x.index x.rest chain (subst (λ z. IsEndOf (x.index ∷ x.rest) (behind_first z)) ec q.0))))

          by : IsOneOf tables h v → IsMark n h
          by (inl p) = decide (asked (StartsSo (x.index ∷ x.rest) h) v vs x.target target (subst (λ z. core_at z w.instances ≡ Some x.target) target x.lives) (subst (λ z. Past (fate z h)) target p.0) (subst (λ z. InFarewell tables (StartsSo (x.index ∷ x.rest) h) z w) e x.starts))
          by (inr o) = absurd (o.0 (sym role))

    -- ---- a callback is

    module _ (k : Code) (more : List Code) (es : c.pre_destroy.callbacks ≡ k ∷ more) (m : ℕ) (place : Place) (em : m ≡ n) (ep : k.place ≡ place) where
      is_in : IsIn k c.pre_destroy.callbacks
      is_in = subst (IsIn k) (sym es) (inl refl)

      never_ordinary : IsOrdinary tables place → ⊥
      never_ordinary o = apart.callbacks is.index is.bean c k is.known is.is is_in (subst (IsOrdinary tables) (sym ep) o)

      no_attendant : (vs : List Invocation) → IsAttending tables m place w h vs → ⊥
      no_attendant [] x = x
      no_attendant (v ∷ vs) x = apart.not_interceptors is.index is.bean c k x.interceptor.name v.role is.known is.is is_in (ep ∙ x.stands)

      member : (vs : List Invocation) → w.invocations ≡ vs → AllParted tables w.instances vs → AllOneOf tables h vs → IsThere m w → IsMemberAt tables m place w h vs → IsBegun n [] h
      member [] e s a l x = absurd x
      member (v ∷ vs) e s a l x = by a.0
        where
          target : v.target ≡ n
          target = x.0 ∙ em

          there : core_at n w.instances ≡ Some l.0
          there = subst (λ z. core_at z w.instances ≡ Some l.0) em l.1

          members : (p : Past (fate n h)) → v.members ≡ k ∷ more
          members p =
              let q = s.0 l.0 (subst (λ z. core_at z w.instances ≡ Some l.0) (sym target) there) (past_leaving n w h l.0 (g.0.1 n) there p) in
              let f = class_of l.0 there in
              q.same ∙ (ap (λ (z : Managed). z.pre_destroy.callbacks) (Rattle.cdi_ledger.proofs.Owed.one_class tables l.0 q.index q.bean q.class c q.is q.known q.kind f) ∙ es)

          decide : StartsSo [] h n c → IsBegun n [] h
          decide (inl q) = inl q.1
          decide (inr q) = inr q.1

          over : Past (fate n h) → AtMember tables place (k ∷ more) w h → IsBegun n [] h
          over p (inl q) = decide (asked (StartsSo [] h) v vs l.0 target there p (subst (λ z. InFarewell tables (StartsSo [] h) z w) e q.1))
          over p (inr q) = absurd (once.callbacks is.index is.bean c k more is.known is.is es (subst (λ z. IsIn z (map (λ m. m.place) more)) (sym ep) q))

          by : IsOneOf tables h v → IsBegun n [] h
          by (inl p) = let u = subst (λ z. Past (fate z h)) target p.0 in over u (subst (λ z. AtMember tables place z w h) (members u) x.1)
          by (inr o) = absurd (let y = code_of tables place v.members (at_in tables place v.members w h x.1) in never_ordinary (subst (IsOrdinary tables) y.2 (o.1 y.0 y.1)))

    begun : (m : ℕ) (place : Place) → Parted tables w → AllOneOf tables h w.invocations → IsKnown tables m place w h → IsThere m w → (chain : List ℕ) → c.pre_destroy.chain ≡ chain → (callbacks : List Code) → c.pre_destroy.callbacks ≡ callbacks → IsFirstOf tables h n chain callbacks m place → IsBegun n chain h
    begun m place s a known l (i ∷ chain) ec ks es f = elim known [
      | inl o ↦ absurd (no_ordinary i chain ec m place f.0 f.1 f.3 o)
      | inr x ↦ elim x [ inl q ↦ absurd (no_member i chain ec m place f.0 f.1 f.3 w.invocations a q) | inr q ↦ attendant i chain ec m place f.0 f.1 f.3 w.invocations refl a q ]
    ]
    begun m place s a known l [] ec (k ∷ ks) es f = elim known [
      | inl o ↦ absurd (never_ordinary k ks es m place f.0 f.1 o)
      | inr x ↦ elim x [ inl q ↦ member k ks es m place f.0 f.1 w.invocations refl s a l q | inr q ↦ absurd (no_attendant k ks es m place f.0 f.1 w.invocations q) ]
    ]
    begun m place s a known l [] ec [] es f = absurd f

  -- ---- all tasks

  abbrev Z : List Item → Type 0
  Z h = Each (IsBegunOnly tables) h

  abbrev BG : World → List Item → Type 0
  BG w h = KG tables w h × (Parted tables w × (AllOneOf tables h w.invocations × Z h))

  each_birth : (g : Change) (w : World) (h : List Item) → Z h → Z (with_birth g w h)
  each_birth (Change.Make component owner fields) w h e = (tt, e)
  each_birth _ w h e = e

  one_more : (e : Entry) (w : World) (h : List Item) (X : Type 0) → KG tables w h → Parted tables w → AllOneOf tables h w.invocations → Note (Ok tables) e w h X → IsBegunOnly tables (Wrote e) h
  one_more (entries.Run m place) w h X g s a x = λ n c is f. begun n c w h g is m place s a x.0.1.0 x.0.1.1 c.pre_destroy.chain refl c.pre_destroy.callbacks refl f
  one_more _ w h X g s a x = tt

  with_firsts : {A : Type 0} (p : Prog A) (w : World) (h : List Item) (Q : Completion A → World → List Item → Type 0) → Does tables (Ok tables) (KG tables) (Pre tables) (BothPost tables) p w h Q → Parted tables w → AllOneOf tables h w.invocations → Z h → Does tables (Ok tables) BG (Pre tables) (BothPost tables) p w h Q
  with_firsts (ret b) w h Q d s a e = ((d.0, (s, (a, e))), d.1)
  with_firsts (throw x) w h Q d s a e = ((d.0, (s, (a, e))), d.1)
  with_firsts (cut cause) w h Q d s a e = (d, (s, (a, e)))
  with_firsts (miss p) w h Q d s a e = with_firsts p w h Q d s a e
  with_firsts (see k) w h Q d s a e = with_firsts (k tables w) w h Q d s a e
  with_firsts (change x p) w h Q d s a e = guard_map (Ok tables) x w h (λ y. with_firsts p (after_change x w) (with_birth x w h) Q y (parted_change tables h x w _ s d) (later_birth tables x w h (after_change x w).invocations (one_change tables h x w _ a d)) (each_birth x w h e)) d
  with_firsts (tick x p) w h Q d s a e = ((d.0, (s, (a, e))), note_map (Ok tables) x w h (λ y. with_firsts p (with_entry x w) (Wrote x ∷ h) Q y s (later tables (Wrote x) h w.invocations a) (one_more x w h _ d.0 s a d.1, e)) d.1)
  with_firsts (mark m p) w h Q d s a e = with_firsts p w (Between m ∷ h) Q d s (later tables (Between m) h w.invocations a) (tt, e)
  with_firsts (act b fields view k) w h Q d s a e = ((d.0, (s, (a, e))), λ x. with_firsts (k x) (with_entry (entries.Did x) w) (Wrote (entries.Did x) ∷ h) Q (d.1 x) s (later tables (Wrote (entries.Did x)) h w.invocations a) (tt, e))
  with_firsts (choose m k) w h Q d s a e = ((d.0, (s, (a, e))), λ i l. with_firsts (k i) (with_entry (entries.Pick (candidates m) i) w) (Wrote (entries.Pick (candidates m) i) ∷ h) Q (d.1 i l) s (later tables (Wrote (entries.Pick (candidates m) i)) h w.invocations a) (tt, e))
  with_firsts (nested t k) w h Q d s a e = ((d.0, (s, (a, e))), d.1, λ c v j g z. with_firsts (k c) v j Q (d.2 c v j g.0 z) g.1.0 g.1.1.0 g.1.1.1)

  all_firsts : (t : Task) (w : World) (h : List Item) → BG w h → Pre tables t w h → Does tables (Ok tables) BG (Pre tables) (BothPost tables) (machine t) w h (BothPost tables t w h)
  all_firsts t w h g q = with_firsts (machine t) w h (BothPost tables t w h) (all_born tables t w h g.0 q) g.1.0 g.1.1.0 g.1.1.1

  module _ (legal : Legal) where
    run_firsts : (c : Command) (w v : World) (o : Outcome) (h : List Item) (r : Runs tables legal ⊥ (task c) w o v) → Tidy w → ((n : ℕ) → Sane n w h) → Known tables w h → Z h → Z (items_of h r)
    run_firsts c w v o h r g s k e =
        (sound tables (Ok tables) BG (Pre tables) (BothPost tables) legal all_firsts h _ r (with_firsts (task c) w h _ (born_command tables c w h g s k) (nobody_of tables w.instances w.invocations g.targets) (nobody tables apart h w.invocations g.targets) e)).0.1.1.1

    pub first_story : {s : State} {h : List Item} → Story tables legal s h → Z h
    first_story (Story.begins ticks depth) = tt
    first_story (Story.refuses {s = s} {h = h} c r l q) = first_story l
    first_story (Story.goes {s = s} {h = h} {o = o} {v = v} c l q r) =
        run_firsts c (at_begin s.world) v o h r (begin_tidy s.world (tidy_story tables legal l (not_halted s.halted _ _ q))) (λ n. ledgered.at_rest n s.world h (sane_story tables legal n l)) (known_begin tables s.world h (known_story tables legal l)) (first_story l)

module _ (tables : Tables) (legal : Legal) where
  pub begins_only_at_mark : BeginsOnlyAtMark tables legal
  begins_only_at_mark apart once s h l = first_story tables apart once legal l

  pub begins_only_if_short : BeginsOnlyAtMarkIfShort tables legal
  begins_only_if_short apart once s h c o v l q r = also_short tables (Each (IsBegunOnly tables)) (λ x k e. e.1) legal (task c) (at_begin s.world) v o h all r
    where
      all : (o' : Outcome) (v' : World) (z : Runs tables anything ⊥ (task c) (at_begin s.world) o' v') → Each (IsBegunOnly tables) (items_of h z)
      all o' v' z = run_firsts tables apart once anything c (at_begin s.world) v' o' h z (begin_tidy s.world (tidy_story tables legal l (not_halted s.halted _ _ q))) (λ n. ledgered.at_rest n s.world h (sane_story tables legal n l)) (known_begin tables s.world h (known_story tables legal l)) (first_story tables apart once legal l)
