-- What a number stands for and what depends on it, before and after each change.
use Rattle.std.proofs.Common.{ℕ, ◌≡◌, ◌≢◌, Bool, true, false, cond, List, [], ◌∷◌, ◌++◌, ◌⊎◌, inl, inr, Option, Some, None, refl, sym, ap, ◌∙◌, subst, nat_eq}
use Rattle.std.specs.Prelude.{option_map}
use Rattle.cdi_base.specs.Maps.{at, adjusted, without}
use Rattle.cdi_store.specs.declared.instance.Component.{Component}
use Rattle.cdi_store.specs.declared.instance.Owner.{Owner}
use Rattle.cdi_store.specs.declared.instance.Owner.TheVariants as owners
use Rattle.cdi_store.specs.declared.instance.Phase.{Phase}
use Rattle.cdi_store.specs.declared.instance.Phase.TheVariants as phases
use Rattle.cdi_store.specs.declared.instance.Instance.{Instance}
use Rattle.cdi_store.specs.Live.{Instances, all_but, with_dependent, without_dependent, for_owner, with_ready, with_leaving, in_phase}
use Rattle.cdi_store.proofs.Numbers.{equal_or_not}
use Rattle.cdi_ledger.specs.Whose.{IsIn}
use Rattle.cdi_ledger.proofs.Maps.{at_adjusted, at_gone, at_left, at_added, at_before}
use Rattle.cdi_ledger.proofs.Lists.{in_others, in_left, in_last, in_front, in_either}

pub record Core : Type 0 where
  pub component : Component
  pub owner : Owner
  pub phase : Phase

abbrev pub core_of : Instance → Core
core_of o = record { component = o.component; owner = o.owner; phase = o.phase }

abbrev pub core_at : ℕ → Instances → Option Core
core_at n m = option_map core_of (at m n)

abbrev pub list_of : Option Instance → List ℕ
list_of None = []
list_of (Some o) = o.dependents

abbrev pub deps_at : ℕ → Instances → List ℕ
deps_at n m = list_of (at m n)

abbrev pub with_phase : Phase → Core → Core
with_phase p c = record c { phase = p }

abbrev pub when : Bool → (Core → Core) → Option Core → Option Core
when b u x = option_map (λ v. cond b (u v) v) x

-- ---- one instance changed

pub core_same : (m : Instances) (k : ℕ) (f : Instance → Instance) → ((o : Instance) → core_of (f o) ≡ core_of o) → (n : ℕ) → core_at n (adjusted k f m) ≡ core_at n m
core_same m k f q n = ap (option_map core_of) (at_adjusted m k f n) ∙ by (at m n)
  where
    over : (b : Bool) (x : Instance) → option_map core_of (Some (cond b (f x) x)) ≡ Some (core_of x)
    over true x = ap (λ z. Some z) (q x)
    over false x = refl

    by : (o : Option Instance) → option_map core_of (option_map (λ x. cond (nat_eq n k) (f x) x) o) ≡ option_map core_of o
    by None = refl
    by (Some x) = over (nat_eq n k) x

pub core_phased : (m : Instances) (k : ℕ) (p : Phase) (n : ℕ) → core_at n (in_phase p k m) ≡ when (nat_eq n k) (with_phase p) (core_at n m)
core_phased m k p n = ap (option_map core_of) (at_adjusted m k (λ o. record o { phase = p }) n) ∙ by (at m n)
  where
    over : (b : Bool) (x : Instance) → core_of (cond b (record x { phase = p }) x) ≡ cond b (with_phase p (core_of x)) (core_of x)
    over true x = refl
    over false x = refl

    by : (o : Option Instance) → option_map core_of (option_map (λ x. cond (nat_eq n k) (record x { phase = p }) x) o) ≡ when (nat_eq n k) (with_phase p) (option_map core_of o)
    by None = refl
    by (Some x) = ap (λ z. Some z) (over (nat_eq n k) x)

pub deps_same : (m : Instances) (k : ℕ) (f : Instance → Instance) → ((o : Instance) → (f o).dependents ≡ o.dependents) → (n : ℕ) → deps_at n (adjusted k f m) ≡ deps_at n m
deps_same m k f q n = ap list_of (at_adjusted m k f n) ∙ by (at m n)
  where
    over : (b : Bool) (x : Instance) → list_of (Some (cond b (f x) x)) ≡ x.dependents
    over true x = q x
    over false x = refl

    by : (o : Option Instance) → list_of (option_map (λ x. cond (nat_eq n k) (f x) x) o) ≡ list_of o
    by None = refl
    by (Some x) = over (nat_eq n k) x

-- the dependents of one changed
abbrev with_list : (List ℕ → List ℕ) → Instance → Instance
with_list g o = record o { dependents = g o.dependents }

module _ (m : Instances) (k n : ℕ) (g : List ℕ → List ℕ) where
  -- what is in the list of n afterwards was in it before, if g adds nothing
  listed_was : (j : ℕ) → ((ds : List ℕ) → IsIn j (g ds) → IsIn j ds) → IsIn j (deps_at n (adjusted k (with_list g) m)) → IsIn j (deps_at n m)
  listed_was j f h = by (at m n) (subst (λ z. IsIn j (list_of z)) (at_adjusted m k (with_list g) n) h)
    where
      over : (b : Bool) (x : Instance) → IsIn j (list_of (Some (cond b (with_list g x) x))) → IsIn j x.dependents
      over true x h = f x.dependents h
      over false x h = h

      by : (o : Option Instance) → IsIn j (list_of (option_map (λ x. cond (nat_eq n k) (with_list g x) x) o)) → IsIn j (list_of o)
      by None h = h
      by (Some x) h = over (nat_eq n k) x h

  listed_stays : (j : ℕ) → ((ds : List ℕ) → IsIn j ds → IsIn j (g ds)) → IsIn j (deps_at n m) → IsIn j (deps_at n (adjusted k (with_list g) m))
  listed_stays j f h = subst (λ z. IsIn j (list_of z)) (sym (at_adjusted m k (with_list g) n)) (by (at m n) h)
    where
      over : (b : Bool) (x : Instance) → IsIn j x.dependents → IsIn j (list_of (Some (cond b (with_list g x) x)))
      over true x h = f x.dependents h
      over false x h = h

      by : (o : Option Instance) → IsIn j (list_of o) → IsIn j (list_of (option_map (λ x. cond (nat_eq n k) (with_list g x) x) o))
      by None h = h
      by (Some x) h = over (nat_eq n k) x h

-- the list of another is the same
pub listed_other : (m : Instances) (k n : ℕ) (g : List ℕ → List ℕ) → n ≢ k → deps_at n (adjusted k (with_list g) m) ≡ deps_at n m
listed_other m k n g d = elim (equal_or_not n k) [
  | inl s ↦ absurd (d s.1)
  | inr s ↦ ap list_of (at_adjusted m k (with_list g) n) ∙ by (nat_eq n k) s.0 (at m n)
]
  where
    by : (b : Bool) → b ≡ false → (o : Option Instance) → list_of (option_map (λ x. cond b (with_list g x) x) o) ≡ list_of o
    by true e o = absurd (cc)
    by false e None = refl
    by false e (Some x) = refl

-- the list of one that is there
pub listed_own : (m : Instances) (k : ℕ) (g : List ℕ → List ℕ) (c : Core) → core_at k m ≡ Some c → deps_at k (adjusted k (with_list g) m) ≡ g (deps_at k m)
listed_own m k g c e = elim (equal_or_not k k) [
  | inl s ↦ ap list_of (at_adjusted m k (with_list g) k) ∙ by (nat_eq k k) s.0 (at m k) e
  | inr s ↦ absurd (s.1 refl)
]
  where
    by : (b : Bool) → b ≡ true → (o : Option Instance) → option_map core_of o ≡ Some c → list_of (option_map (λ x. cond b (with_list g x) x) o) ≡ g (list_of o)
    by false q o e = absurd (cc)
    by true q None e = absurd (cc)
    by true q (Some x) e = refl

-- ---- an instance is ready, or leaves

core_dependent : (n : ℕ) (owner : Owner) (live : Instances) (k : ℕ) → core_at k (with_dependent n owner live) ≡ core_at k live
core_dependent n (owners.Instance o) live k = core_same live o _ (λ x. refl) k
core_dependent n (owners.Context c) live k = refl
core_dependent n owners.Borrower live k = refl

core_less : (n : ℕ) (owner : Owner) (live : Instances) (k : ℕ) → core_at k (without_dependent n owner live) ≡ core_at k live
core_less n (owners.Instance o) live k = core_same live o _ (λ x. refl) k
core_less n (owners.Context c) live k = refl
core_less n owners.Borrower live k = refl

core_owner : (o : Option Instance) (f : Owner → Instances → Instances) → ((owner : Owner) (live : Instances) (k : ℕ) → core_at k (f owner live) ≡ core_at k live) → (live : Instances) (k : ℕ) → core_at k (for_owner o f live) ≡ core_at k live
core_owner None f q live k = refl
core_owner (Some o) f q live k = q o.owner live k

pub core_ready : (n : ℕ) (live : Instances) (k : ℕ) → core_at k (with_ready n live) ≡ when (nat_eq k n) (with_phase phases.Ready) (core_at k live)
core_ready n live k = core_phased (for_owner (at live n) (with_dependent n) live) n phases.Ready k ∙ ap (when (nat_eq k n) (with_phase phases.Ready)) (core_owner (at live n) (with_dependent n) (core_dependent n) live k)

pub core_leaving : (n : ℕ) (live : Instances) (k : ℕ) → core_at k (with_leaving n live) ≡ when (nat_eq k n) (with_phase phases.Leaving) (core_at k live)
core_leaving n live k = core_phased (for_owner (at live n) (without_dependent n) live) n phases.Leaving k ∙ ap (when (nat_eq k n) (with_phase phases.Leaving)) (core_owner (at live n) (without_dependent n) (core_less n) live k)

-- of another, and of itself
pub when_other : (n k : ℕ) (u : Core → Core) (x : Option Core) → k ≢ n → when (nat_eq k n) u x ≡ x
when_other n k u x d = elim (equal_or_not k n) [ inl s ↦ absurd (d s.1) | inr s ↦ by (nat_eq k n) s.0 x ]
  where
    by : (b : Bool) → b ≡ false → (x : Option Core) → when b u x ≡ x
    by true e x = absurd (cc)
    by false e None = refl
    by false e (Some c) = refl

pub when_own : (n : ℕ) (u : Core → Core) (c : Core) → when (nat_eq n n) u (Some c) ≡ Some (u c)
when_own n u c = elim (equal_or_not n n) [ inl s ↦ by (nat_eq n n) s.0 | inr s ↦ absurd (s.1 refl) ]
  where
    by : (b : Bool) → b ≡ true → when b u (Some c) ≡ Some (u c)
    by true e = refl
    by false e = absurd (cc)

-- the dependents, of which n is one more
deps_phase : (p : Phase) (n : ℕ) (live : Instances) (k : ℕ) → deps_at k (in_phase p n live) ≡ deps_at k live
deps_phase p n live k = deps_same live n _ (λ x. refl) k

of_core : (o : Option Instance) (c : Core) → option_map core_of o ≡ Some c → (x : Instance) × (o ≡ Some x) × (core_of x ≡ c)
of_core None c e = absurd (cc)
of_core (Some x) c e = (x, refl, let q : core_of x ≡ c = cc in q)

pub is_there : (n : ℕ) (live : Instances) (c : Core) → core_at n live ≡ Some c → (x : Instance) × (at live n ≡ Some x) × (core_of x ≡ c)
is_there n live c e = of_core (at live n) c e

-- which owner is told by the core
for_of : (n : ℕ) (live : Instances) (c : Core) (f : Owner → Instances → Instances) → core_at n live ≡ Some c → for_owner (at live n) f live ≡ f c.owner live
for_of n live c f e = by (at live n) e
  where
    by : (o : Option Instance) → option_map core_of o ≡ Some c → for_owner o f live ≡ f c.owner live
    by None e = absurd (cc)
    by (Some x) e = ap (λ z. f z live) (ap (λ (z : Core). z.owner) (let q : core_of x ≡ c = cc in q))

module _ (n : ℕ) (live : Instances) (c : Core) (e : core_at n live ≡ Some c) where
  deps_ready : (k : ℕ) → deps_at k (with_ready n live) ≡ deps_at k (with_dependent n c.owner live)
  deps_ready k = deps_phase phases.Ready n (for_owner (at live n) (with_dependent n) live) k ∙ ap (deps_at k) (for_of n live c (with_dependent n) e)

  deps_leaving : (k : ℕ) → deps_at k (with_leaving n live) ≡ deps_at k (without_dependent n c.owner live)
  deps_leaving k = deps_phase phases.Leaving n (for_owner (at live n) (without_dependent n) live) k ∙ ap (deps_at k) (for_of n live c (without_dependent n) e)

  -- of others
  pub ready_was : (j k : ℕ) → j ≢ n → IsIn j (deps_at k (with_ready n live)) → IsIn j (deps_at k live)
  ready_was j k d h = by c.owner (subst (IsIn j) (deps_ready k) h)
    where
      by : (o : Owner) → IsIn j (deps_at k (with_dependent n o live)) → IsIn j (deps_at k live)
      by (owners.Instance m) h = listed_was live m k (λ ds. all_but n ds ++ n ∷ []) j (λ ds q. elim (in_either j n (all_but n ds) q) [ inl r ↦ (in_left j n ds r).1 | inr r ↦ absurd (d (sym r)) ]) h
      by (owners.Context x) h = h
      by owners.Borrower h = h

  pub ready_stays : (j k : ℕ) → j ≢ n → IsIn j (deps_at k live) → IsIn j (deps_at k (with_ready n live))
  ready_stays j k d h = subst (IsIn j) (sym (deps_ready k)) (by c.owner h)
    where
      by : (o : Owner) → IsIn j (deps_at k live) → IsIn j (deps_at k (with_dependent n o live))
      by (owners.Instance m) h = listed_stays live m k (λ ds. all_but n ds ++ n ∷ []) j (λ ds q. in_front j n (all_but n ds) (in_others j n ds d q)) h
      by (owners.Context x) h = h
      by owners.Borrower h = h

  pub leaving_was : (j k : ℕ) → IsIn j (deps_at k (with_leaving n live)) → IsIn j (deps_at k live)
  leaving_was j k h = by c.owner (subst (IsIn j) (deps_leaving k) h)
    where
      by : (o : Owner) → IsIn j (deps_at k (without_dependent n o live)) → IsIn j (deps_at k live)
      by (owners.Instance m) h = listed_was live m k (all_but n) j (λ ds q. (in_left j n ds q).1) h
      by (owners.Context x) h = h
      by owners.Borrower h = h

  pub leaving_stays : (j k : ℕ) → j ≢ n → IsIn j (deps_at k live) → IsIn j (deps_at k (with_leaving n live))
  leaving_stays j k d h = subst (IsIn j) (sym (deps_leaving k)) (by c.owner h)
    where
      by : (o : Owner) → IsIn j (deps_at k live) → IsIn j (deps_at k (without_dependent n o live))
      by (owners.Instance m) h = listed_stays live m k (all_but n) j (λ ds q. in_others j n ds d q) h
      by (owners.Context x) h = h
      by owners.Borrower h = h

  -- of itself
  pub ready_own : (m : ℕ) (d : Core) → c.owner ≡ owners.Instance m → core_at m live ≡ Some d → IsIn n (deps_at m (with_ready n live))
  ready_own m d q there =
      subst (IsIn n) (sym (deps_ready m ∙ ap (λ z. deps_at m (with_dependent n z live)) q ∙ listed_own live m (λ ds. all_but n ds ++ n ∷ []) d there)) (in_last n (all_but n (deps_at m live)))

  pub ready_only : (k : ℕ) → IsIn n (deps_at k (with_ready n live)) → IsIn n (deps_at k live) ⊎ (c.owner ≡ owners.Instance k)
  ready_only k h = by c.owner (subst (IsIn n) (deps_ready k) h)
    where
      by : (o : Owner) → IsIn n (deps_at k (with_dependent n o live)) → IsIn n (deps_at k live) ⊎ (o ≡ owners.Instance k)
      by (owners.Instance m) h = elim (equal_or_not k m) [
        | inl s ↦ inr (ap owners.Instance (sym s.1))
        | inr s ↦ inl (subst (IsIn n) (listed_other live m k (λ ds. all_but n ds ++ n ∷ []) s.1) h)
      ]
      by (owners.Context x) h = inl h
      by owners.Borrower h = inl h

  pub leaving_only : (k : ℕ) → (IsIn n (deps_at k live) → c.owner ≡ owners.Instance k) → IsIn n (deps_at k (with_leaving n live)) → ⊥
  leaving_only k f h = by c.owner f (subst (IsIn n) (deps_leaving k) h)
    where
      same : (m : ℕ) → owners.Instance m ≡ owners.Instance k → m ≡ k
      same m e = cc

      by : (o : Owner) → (IsIn n (deps_at k live) → o ≡ owners.Instance k) → IsIn n (deps_at k (without_dependent n o live)) → ⊥
      by (owners.Instance m) f h = elim (equal_or_not k m) [
        | inl s ↦ own (at live m) (subst (λ z. IsIn n (list_of z)) (at_adjusted live m (with_list (all_but n)) m) (subst (λ z. IsIn n (deps_at z (adjusted m (with_list (all_but n)) live))) s.1 h))
        | inr s ↦ s.1 (sym (same m (f (subst (IsIn n) (listed_other live m k (all_but n) s.1) h))))
      ]
        where
          over : (b : Bool) → b ≡ true → (x : Instance) → IsIn n (list_of (Some (cond b (with_list (all_but n) x) x))) → ⊥
          over true e x h = (in_left n n x.dependents h).0 refl
          over false e x h = absurd (cc)

          own : (o : Option Instance) → IsIn n (list_of (option_map (λ x. cond (nat_eq m m) (with_list (all_but n) x) x) o)) → ⊥
          own None h = h
          own (Some x) h = elim (equal_or_not m m) [ inl s ↦ over (nat_eq m m) s.0 x h | inr s ↦ s.1 refl ]
      by (owners.Context x) f h = let e = f h in cc
      by owners.Borrower f h = let e = f h in cc

-- ---- an instance goes, and one comes

pub core_gone : (m : Instances) (n : ℕ) → core_at n (without n m) ≡ None
core_gone m n = ap (option_map core_of) (at_gone m n)

pub core_left : (m : Instances) (n k : ℕ) → k ≢ n → core_at k (without n m) ≡ core_at k m
core_left m n k d = ap (option_map core_of) (at_left m n k d)

pub deps_gone : (m : Instances) (n : ℕ) → deps_at n (without n m) ≡ []
deps_gone m n = ap list_of (at_gone m n)

pub deps_left : (m : Instances) (n k : ℕ) → k ≢ n → deps_at k (without n m) ≡ deps_at k m
deps_left m n k d = ap list_of (at_left m n k d)

none_at : (o : Option Instance) → option_map core_of o ≡ None → o ≡ None
none_at None e = refl
none_at (Some x) e = absurd (cc)

pub core_born : (m : Instances) (n : ℕ) (x : Instance) → core_at n m ≡ None → core_at n (m ++ (n, x) ∷ []) ≡ Some (core_of x)
core_born m n x e = ap (option_map core_of) (at_added m n x (none_at (at m n) e))

pub core_before : (m : Instances) (n k : ℕ) (x : Instance) → k ≢ n → core_at k (m ++ (n, x) ∷ []) ≡ core_at k m
core_before m n k x d = ap (option_map core_of) (at_before m n k x d)

pub deps_born : (m : Instances) (n : ℕ) (x : Instance) → core_at n m ≡ None → deps_at n (m ++ (n, x) ∷ []) ≡ x.dependents
deps_born m n x e = ap list_of (at_added m n x (none_at (at m n) e))

pub deps_before : (m : Instances) (n k : ℕ) (x : Instance) → k ≢ n → deps_at k (m ++ (n, x) ∷ []) ≡ deps_at k m
deps_before m n k x d = ap list_of (at_before m n k x d)

-- what isn't there has no dependents
pub no_deps : (m : Instances) (n j : ℕ) → core_at n m ≡ None → IsIn j (deps_at n m) → ⊥
no_deps m n j e h = by (at m n) e h
  where
    by : (o : Option Instance) → option_map core_of o ≡ None → IsIn j (list_of o) → ⊥
    by None e h = h
    by (Some x) e h = absurd (cc)
