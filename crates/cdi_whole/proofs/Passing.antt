-- Live instances when one of them passes to another phase and lists of dependents change by it alone.
use Rattle.std.proofs.Common.{ℕ, ◌≡◌, ◌≢◌, inl, inr, List, [], ◌∷◌, ◌++◌, Bool, true, false, cond, Option, Some, None, refl, sym, ap, ◌∙◌, subst, nat_eq}
use Rattle.std.specs.Prelude.{option_map}
use Rattle.cdi_base.specs.Maps.{at, adjusted}
use Rattle.cdi_base.specs.Fields.{has}
use Rattle.cdi_store.specs.declared.instance.Owner.{Owner}
use Rattle.cdi_store.specs.declared.instance.Owner.TheVariants as owners
use Rattle.cdi_store.specs.declared.instance.Phase.{Phase}
use Rattle.cdi_store.specs.declared.instance.Phase.TheVariants as phases
use Rattle.cdi_store.specs.declared.instance.Instance.{Instance}
use Rattle.cdi_store.specs.Live.{Instances, in_phase, with_dependent, without_dependent, all_but}
use Rattle.cdi_store.proofs.Numbers.{equal_or_not}
use Rattle.cdi_machine.specs.Words.{Name}
use Rattle.cdi_ledger.specs.Whose.{IsIn}
use Rattle.cdi_ledger.proofs.Maps.{at_adjusted}
use Rattle.cdi_ledger.proofs.Lists.{in_last, in_front, in_either, in_others, in_left}

-- what an instance is, whose it is and which fields it has stays
pub record IsLike (x y : Instance) : Type 0 where
  pub of : y.component ≡ x.component
  pub owned : y.owner ≡ x.owner
  pub fields : (name : Name) → has y.fields name ≡ has x.fields name

-- ---- one passes to a phase

-- what the instance k becomes as n passes to the phase; H holds of those that have n among their dependents then
pub record Passed (n : ℕ) (p : Phase) (H : ℕ → Type 0) (k : ℕ) (x y : Instance) : Type 0 where
  pub alike : IsLike x y
  pub references : y.references ≡ x.references
  pub phase_is : k ≢ n → y.phase ≡ x.phase
  pub passed : k ≡ n → y.phase ≡ p
  pub stays : (d : ℕ) → d ≢ n → IsIn d x.dependents → IsIn d y.dependents
  pub was : (d : ℕ) → d ≢ n → IsIn d y.dependents → IsIn d x.dependents
  pub has : IsIn n y.dependents → H k
  pub gains : H k → IsIn n y.dependents

pub record Passes (n : ℕ) (p : Phase) (H : ℕ → Type 0) (before after : Instances) : Type 0 where
  pub forth : (k : ℕ) (x : Instance) → at before k ≡ Some x → (y : Instance) × (at after k ≡ Some y) × Passed n p H k x y
  pub back : (k : ℕ) (y : Instance) → at after k ≡ Some y → (x : Instance) × (at before k ≡ Some x) × Passed n p H k x y

-- in a phase, and with other dependents
abbrev pub with_phase : Bool → Phase → List ℕ → Instance → Instance
with_phase b p ds x = record x { phase = cond b p x.phase; dependents = ds }

-- if each instance becomes this
pub passes_by : (n : ℕ) (p : Phase) (H : ℕ → Type 0) (before after : Instances) (D : ℕ → List ℕ → List ℕ)
    → ((k : ℕ) → at after k ≡ option_map (λ x. with_phase (nat_eq k n) p (D k x.dependents) x) (at before k))
    → ((k d : ℕ) (ds : List ℕ) → d ≢ n → IsIn d ds → IsIn d (D k ds))
    → ((k d : ℕ) (ds : List ℕ) → d ≢ n → IsIn d (D k ds) → IsIn d ds)
    → ((k : ℕ) (x : Instance) → at before k ≡ Some x → IsIn n (D k x.dependents) → H k)
    → ((k : ℕ) (x : Instance) → at before k ≡ Some x → H k → IsIn n (D k x.dependents))
    → Passes n p H before after
passes_by n p H before after D e stays was has gains = record {
  forth = λ k x q. (with_phase (nat_eq k n) p (D k x.dependents) x, e k ∙ ap (option_map (λ x. with_phase (nat_eq k n) p (D k x.dependents) x)) q, passed k x q);
  back = λ k y q. from k y q (at before k) refl;
}
  where
    phase_is : (k : ℕ) (x : Instance) → k ≢ n → cond (nat_eq k n) p x.phase ≡ x.phase
    phase_is k x d = elim (equal_or_not k n) [ inl s ↦ absurd (d s.1) | inr s ↦ rw s.0 refl ]

    phased : (k : ℕ) (x : Instance) → k ≡ n → cond (nat_eq k n) p x.phase ≡ p
    phased k x d = elim (equal_or_not k n) [ inl s ↦ rw s.0 refl | inr s ↦ absurd (s.1 d) ]

    passed : (k : ℕ) (x : Instance) → at before k ≡ Some x → Passed n p H k x (with_phase (nat_eq k n) p (D k x.dependents) x)
    passed k x q = record {
      alike = record { of = refl; owned = refl; fields = λ name. refl };
      references = refl;
      phase_is = phase_is k x;
      passed = phased k x;
      stays = λ d a h. stays k d x.dependents a h;
      was = λ d a h. was k d x.dependents a h;
      has = has k x q;
      gains = gains k x q;
    }

    from : (k : ℕ) (y : Instance) → at after k ≡ Some y → (o : Option Instance) → at before k ≡ o → (x : Instance) × (at before k ≡ Some x) × Passed n p H k x y
    from k y q None h =
        let z : at after k ≡ None = e k ∙ ap (option_map (λ x. with_phase (nat_eq k n) p (D k x.dependents) x)) h in
        absurd (cc)
    from k y q (Some x) h =
        let z : at after k ≡ Some (with_phase (nat_eq k n) p (D k x.dependents) x) = e k ∙ ap (option_map (λ x. with_phase (nat_eq k n) p (D k x.dependents) x)) h in
        let s : with_phase (nat_eq k n) p (D k x.dependents) x ≡ y = cc in
        (x, h, subst (Passed n p H k x) s (passed k x h))

-- ---- an instance is ready

abbrev pub joining : Owner → ℕ → ℕ → List ℕ → List ℕ
joining (owners.Context context) n k ds = ds
joining (owners.Instance m) n k ds = cond (nat_eq k m) (all_but n ds ++ n ∷ []) ds
joining owners.Borrower n k ds = ds

-- the instance k is the owner
abbrev pub Owns : Owner → ℕ → Type 0
Owns (owners.Context context) k = ⊥
Owns (owners.Instance m) k = m ≡ k
Owns owners.Borrower k = ⊥

pub option_same : {X Y : Type 0} (f g : X → Y) (o : Option X) → ((x : X) → f x ≡ g x) → option_map f o ≡ option_map g o
option_same f g None h = refl
option_same f g (Some x) h = ap Some (h x)

pub option_two : {X Y Z : Type 0} (f : X → Y) (g : Y → Z) (h : X → Z) (o : Option X) → ((x : X) → g (f x) ≡ h x) → option_map g (option_map f o) ≡ option_map h o
option_two f g h None e = refl
option_two f g h (Some x) e = ap Some (e x)

pub plain_phase : (b : Bool) (p : Phase) (x : Instance) → cond b (record x { phase = p }) x ≡ with_phase b p x.dependents x
plain_phase true p x = refl
plain_phase false p x = refl

pub both_phases : (b c : Bool) (p : Phase) (ds : List ℕ) (x : Instance) → cond b (record (cond c (record x { dependents = ds }) x) { phase = p }) (cond c (record x { dependents = ds }) x) ≡ with_phase b p (cond c ds x.dependents) x
both_phases true true p ds x = refl
both_phases true false p ds x = refl
both_phases false true p ds x = refl
both_phases false false p ds x = refl

-- one in a phase
pub phased : (n : ℕ) (p : Phase) (live : Instances) (k : ℕ) → at (in_phase p n live) k ≡ option_map (λ x. with_phase (nat_eq k n) p x.dependents x) (at live k)
phased n p live k = at_adjusted live n (λ o. record o { phase = p }) k ∙ option_same _ _ (at live k) (plain_phase (nat_eq k n) p)

-- and another with other dependents
pub phased_both : (n m : ℕ) (p : Phase) (G : List ℕ → List ℕ) (live : Instances) (k : ℕ)
    → at (in_phase p n (adjusted m (λ o. record o { dependents = G o.dependents }) live)) k ≡ option_map (λ x. with_phase (nat_eq k n) p (cond (nat_eq k m) (G x.dependents) x.dependents) x) (at live k)
phased_both n m p G live k =
    at_adjusted (adjusted m (λ o. record o { dependents = G o.dependents }) live) n (λ o. record o { phase = p }) k
    ∙ (ap (option_map (λ x. cond (nat_eq k n) (record x { phase = p }) x)) (at_adjusted live m (λ o. record o { dependents = G o.dependents }) k)
    ∙ option_two (λ x. cond (nat_eq k m) (record x { dependents = G x.dependents }) x) _ _ (at live k) (λ x. both_phases (nat_eq k n) (nat_eq k m) p (G x.dependents) x))

joined : (n : ℕ) (owner : Owner) (live : Instances) (k : ℕ) → at (in_phase phases.Ready n (with_dependent n owner live)) k ≡ option_map (λ x. with_phase (nat_eq k n) phases.Ready (joining owner n k x.dependents) x) (at live k)
joined n (owners.Context context) live k = phased n phases.Ready live k
joined n (owners.Instance m) live k = phased_both n m phases.Ready (λ ds. all_but n ds ++ n ∷ []) live k
joined n owners.Borrower live k = phased n phases.Ready live k

join_stays : (n : ℕ) (owner : Owner) (k d : ℕ) (ds : List ℕ) → d ≢ n → IsIn d ds → IsIn d (joining owner n k ds)
join_stays n (owners.Context context) k d ds a h = h
join_stays n (owners.Instance m) k d ds a h = by (nat_eq k m)
  where
    by : (b : Bool) → IsIn d (cond b (all_but n ds ++ n ∷ []) ds)
    by true = in_front d n (all_but n ds) (in_others d n ds a h)
    by false = h
join_stays n owners.Borrower k d ds a h = h

join_was : (n : ℕ) (owner : Owner) (k d : ℕ) (ds : List ℕ) → d ≢ n → IsIn d (joining owner n k ds) → IsIn d ds
join_was n (owners.Context context) k d ds a h = h
join_was n (owners.Instance m) k d ds a h = by (nat_eq k m) h
  where
    by : (b : Bool) → IsIn d (cond b (all_but n ds ++ n ∷ []) ds) → IsIn d ds
    by true q = elim (in_either d n (all_but n ds) q) [ inl r ↦ (let l = in_left d n ds r in l.1) | inr e ↦ absurd (a (sym e)) ]
    by false q = q
join_was n owners.Borrower k d ds a h = h

join_has : (n : ℕ) (owner : Owner) (k : ℕ) (ds : List ℕ) → (IsIn n ds → ⊥) → IsIn n (joining owner n k ds) → Owns owner k
join_has n (owners.Context context) k ds none h = absurd (none h)
join_has n (owners.Instance m) k ds none h = elim (equal_or_not k m) [
  | inl s ↦ sym s.1
  | inr s ↦ absurd (none (rw s.0 at h))
]
join_has n owners.Borrower k ds none h = absurd (none h)

join_gains : (n : ℕ) (owner : Owner) (k : ℕ) (ds : List ℕ) → Owns owner k → IsIn n (joining owner n k ds)
join_gains n (owners.Context context) k ds h = absurd h
join_gains n (owners.Instance m) k ds h = elim (equal_or_not k m) [
  | inl s ↦ rw s.0 (in_last n (all_but n ds))
  | inr s ↦ absurd (s.1 (sym h))
]
join_gains n owners.Borrower k ds h = absurd h

abbrev pub ready_among : ℕ → Owner → Instances → Instances
ready_among n owner live = in_phase phases.Ready n (with_dependent n owner live)

pub join_passes : (n : ℕ) (owner : Owner) (live : Instances) → ((k : ℕ) (x : Instance) → at live k ≡ Some x → IsIn n x.dependents → ⊥) → Passes n phases.Ready (Owns owner) live (ready_among n owner live)
join_passes n owner live none =
    passes_by n phases.Ready (Owns owner) live (ready_among n owner live) (joining owner n) (joined n owner live) (join_stays n owner) (join_was n owner)
    (λ k x e. join_has n owner k x.dependents (none k x e)) (λ k x e. join_gains n owner k x.dependents)

-- ---- an instance leaves

abbrev pub leaving : Owner → ℕ → ℕ → List ℕ → List ℕ
leaving (owners.Context context) n k ds = ds
leaving (owners.Instance m) n k ds = cond (nat_eq k m) (all_but n ds) ds
leaving owners.Borrower n k ds = ds

abbrev pub left_among : ℕ → Owner → Instances → Instances
left_among n owner live = in_phase phases.Leaving n (without_dependent n owner live)

parted : (n : ℕ) (owner : Owner) (live : Instances) (k : ℕ) → at (left_among n owner live) k ≡ option_map (λ x. with_phase (nat_eq k n) phases.Leaving (leaving owner n k x.dependents) x) (at live k)
parted n (owners.Context context) live k = phased n phases.Leaving live k
parted n (owners.Instance m) live k = phased_both n m phases.Leaving (all_but n) live k
parted n owners.Borrower live k = phased n phases.Leaving live k

part_stays : (n : ℕ) (owner : Owner) (k d : ℕ) (ds : List ℕ) → d ≢ n → IsIn d ds → IsIn d (leaving owner n k ds)
part_stays n (owners.Context context) k d ds a h = h
part_stays n (owners.Instance m) k d ds a h = by (nat_eq k m)
  where
    by : (b : Bool) → IsIn d (cond b (all_but n ds) ds)
    by true = in_others d n ds a h
    by false = h
part_stays n owners.Borrower k d ds a h = h

part_was : (n : ℕ) (owner : Owner) (k d : ℕ) (ds : List ℕ) → d ≢ n → IsIn d (leaving owner n k ds) → IsIn d ds
part_was n (owners.Context context) k d ds a h = h
part_was n (owners.Instance m) k d ds a h = by (nat_eq k m) h
  where
    by : (b : Bool) → IsIn d (cond b (all_but n ds) ds) → IsIn d ds
    by true q = let l = in_left d n ds q in l.1
    by false q = q
part_was n owners.Borrower k d ds a h = h

-- nothing has it
part_none : (n : ℕ) (owner : Owner) (k : ℕ) (ds : List ℕ) → (IsIn n ds → owner ≡ owners.Instance k) → IsIn n (leaving owner n k ds) → ⊥
part_none n (owners.Context context) k ds f h = let e = f h in cc
part_none n (owners.Instance m) k ds f h = elim (equal_or_not k m) [
  | inl s ↦ let l = in_left n n ds (rw s.0 at h) in l.0 refl
  | inr s ↦ let e = f (rw s.0 at h) in s.1 (sym (same e))
]
  where
    same : owners.Instance m ≡ owners.Instance k → m ≡ k
    same e = cc
part_none n owners.Borrower k ds f h = let e = f h in cc

pub part_passes : (n : ℕ) (owner : Owner) (live : Instances) → ((k : ℕ) (x : Instance) → at live k ≡ Some x → IsIn n x.dependents → owner ≡ owners.Instance k) → Passes n phases.Leaving (λ k. ⊥) live (left_among n owner live)
part_passes n owner live f =
    passes_by n phases.Leaving (λ k. ⊥) live (left_among n owner live) (leaving owner n) (parted n owner live) (part_stays n owner) (part_was n owner)
    (λ k x e. part_none n owner k x.dependents (f k x e)) (λ k x e h. absurd h)
