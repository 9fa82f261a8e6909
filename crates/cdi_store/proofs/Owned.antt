-- What changes of instances are to the dependents of all of them.
use Rattle.std.proofs.Common.{◌≡◌, ◌≢◌, ℕ, zero, suc, ◌+◌, ◌<◌, ◌≤◌, ◌==◌, List, [], ◌∷◌, ◌++◌, length, cond, Option, Some, None, IfSome, inl, inr, refl, sym, ap, subst, ◌∙◌, arith}
use Rattle.std.specs.Option.{option_map}
use Rattle.std.proofs.lemmas.List.Sums.{sum_by-cons, sum_by-append}
use Rattle.std.proofs.lemmas.List.Concat.{flat_map-append}
use Rattle.cdi_base.specs.Maps.{at, adjusted, without}
use Rattle.cdi_base.specs.declared.value.Value.{Value}
use Rattle.cdi_store.specs.declared.instance.Component.{Component}
use Rattle.cdi_store.specs.declared.instance.Owner.{Owner}
use Rattle.cdi_store.specs.declared.instance.Owner.TheVariants as owners
use Rattle.cdi_store.specs.declared.instance.Instance.{Instance}
use Rattle.cdi_store.specs.Live.{Instances, all_but, newborn, with_newborn, with_dependent, without_dependent, owned_by, with_owner, number_of, owner_at}
use Rattle.cdi_store.specs.Owned.{times, dependents_in, dependents_of, all_dependents, AreOwned}
use Rattle.cdi_store.proofs.Numbers.{equal_or_not}
use Rattle.cdi_store.proofs.Owners.{absent-cond, taken_from, leaves-taken, Owns, owns-by, owner-lives}

-- ---- numbers in a list

times-none : (n : ℕ) → times n [] ≡ 0
unfolding times
times-none n = refl

times-cons : (n m : ℕ) (ms : List ℕ) → times n (m ∷ ms) ≡ cond (m == n) 1 0 + times n ms
unfolding times
times-cons n m ms = sum_by-cons (λ k. cond (k == n) 1 0) m ms

times-append : (n : ℕ) (ms ns : List ℕ) → times n (ms ++ ns) ≡ times n ms + times n ns
unfolding times
times-append n ms ns = sum_by-append (λ k. cond (k == n) 1 0) ms ns

times-one : (n : ℕ) → times n (n ∷ []) ≡ 1
times-one n = elim (equal_or_not n n) [
  | inl s ↦ rw (times-cons n n [], s.0) (omega (arith, times-none n))
  | inr s ↦ absurd (s.1 refl)
]

times-other : (k n : ℕ) → k ≢ n → times k (n ∷ []) ≡ 0
times-other k n h = elim (equal_or_not n k) [
  | inl s ↦ absurd (h (sym s.1))
  | inr s ↦ rw (times-cons k n [], s.0) (omega (arith, times-none k))
]

times-all_but : (n : ℕ) (ms : List ℕ) → times n (all_but n ms) ≡ 0
times-all_but n [] = times-none n
times-all_but n (m ∷ ms) = elim (equal_or_not m n) [
  | inl s ↦ rw s.0 (times-all_but n ms)
  | inr s ↦ rw (s.0, times-cons n m (all_but n ms), s.0) (omega (arith, times-all_but n ms))
]

times-all_but_other : (k n : ℕ) (ms : List ℕ) → k ≢ n → times k (all_but n ms) ≡ times k ms
times-all_but_other k n [] h = refl
times-all_but_other k n (m ∷ ms) h = elim (equal_or_not m n) [
  | inl s ↦ elim (equal_or_not m k) [
    | inl t ↦ absurd (h (sym t.1 ∙ s.1))
    | inr t ↦ rw (s.0, times-cons k m ms, t.0) (omega (arith, times-all_but_other k n ms h))
  ]
  | inr s ↦
      rw s.0
      (times-cons k m (all_but n ms)
      ∙ ap (λ t. cond (m == k) 1 0 + t) (times-all_but_other k n ms h)
      ∙ sym (times-cons k m ms))
]

-- a list with a number as its last, and nowhere else
abbrev pub put_last : ℕ → List ℕ → List ℕ
put_last n ms = all_but n ms ++ n ∷ []

times-put_last : (n : ℕ) (ms : List ℕ) → times n (put_last n ms) ≡ 1
times-put_last n ms = omega (arith, times-append n (all_but n ms) (n ∷ []), times-all_but n ms, times-one n)

times-put_last_other : (k n : ℕ) (ms : List ℕ) → k ≢ n → times k (put_last n ms) ≡ times k ms
times-put_last_other k n ms h =
    omega (arith, times-append k (all_but n ms) (n ∷ []), times-all_but_other k n ms h, times-other k n h)

-- ---- instances by their numbers

at-adjusted : (n : ℕ) (f : Instance → Instance) (live : Instances) → at (adjusted n f live) n ≡ option_map f (at live n)
at-adjusted n f [] = refl
at-adjusted n f (p ∷ more) = elim (equal_or_not n p.0) [
  | inl s ↦ rw (s.0, s.0) refl
  | inr s ↦ rw (s.0, s.0) (at-adjusted n f more)
]

at-adjusted_other : (k n : ℕ) (f : Instance → Instance) (live : Instances) → k ≢ n → at (adjusted n f live) k ≡ at live k
at-adjusted_other k n f [] h = refl
at-adjusted_other k n f (p ∷ more) h = elim (equal_or_not n p.0) [
  | inl s ↦ elim (equal_or_not k p.0) [
    | inl t ↦ absurd (h (t.1 ∙ sym s.1))
    | inr t ↦ rw (s.0, t.0) refl
  ]
  | inr s ↦ elim (equal_or_not k p.0) [
    | inl t ↦ rw (s.0, t.0) refl
    | inr t ↦ rw (s.0, t.0) (at-adjusted_other k n f more h)
  ]
]

at-without : (n : ℕ) (live : Instances) → at (without n live) n ≡ None
at-without n [] = refl
at-without n (p ∷ more) = elim (equal_or_not n p.0) [
  | inl s ↦ rw s.0 (at-without n more)
  | inr s ↦ rw (s.0, s.0) (at-without n more)
]

at-without_other : (k n : ℕ) (live : Instances) → k ≢ n → at (without n live) k ≡ at live k
at-without_other k n [] h = refl
at-without_other k n (p ∷ more) h = elim (equal_or_not n p.0) [
  | inl s ↦ elim (equal_or_not k p.0) [
    | inl t ↦ absurd (h (t.1 ∙ sym s.1))
    | inr t ↦ rw (s.0, t.0) (at-without_other k n more h)
  ]
  | inr s ↦ elim (equal_or_not k p.0) [
    | inl t ↦ rw (s.0, t.0) refl
    | inr t ↦ rw (s.0, t.0) (at-without_other k n more h)
  ]
]

at-added : (n : ℕ) (o : Instance) (live : Instances) → at live n ≡ None → at (live ++ (n, o) ∷ []) n ≡ Some o
at-added n o [] h = elim (equal_or_not n n) [ inl s ↦ rw s.0 refl | inr s ↦ absurd (s.1 refl) ]
at-added n o (p ∷ more) h = elim (equal_or_not n p.0) [
  | inl s ↦ let t : Some p.1 ≡ None = rw s.0 at h in absurd (cc)
  | inr s ↦ rw s.0 (at-added n o more (rw s.0 at h))
]

at-added_other : (k n : ℕ) (o : Instance) (live : Instances) → k ≢ n → at (live ++ (n, o) ∷ []) k ≡ at live k
at-added_other k n o [] h = elim (equal_or_not k n) [ inl s ↦ absurd (h s.1) | inr s ↦ rw s.0 refl ]
at-added_other k n o (p ∷ more) h = elim (equal_or_not k p.0) [
  | inl s ↦ rw s.0 refl
  | inr s ↦ rw s.0 (at-added_other k n o more h)
]

-- ---- the dependents of all

abbrev pub total : ℕ → Instances → ℕ
total n live = times n (all_dependents live)

total-cons : (n : ℕ) (p : ℕ × Instance) (more : Instances) → total n (p ∷ more) ≡ times n p.1.dependents + total n more
total-cons n p more = times-append n p.1.dependents (all_dependents more)

-- a change of one list
total-adjusted : (n k : ℕ) (f : Instance → Instance) (live : Instances) (o : Instance) → at live k ≡ Some o → total n (adjusted k f live) + times n o.dependents ≡ total n live + times n (f o).dependents
total-adjusted n k f [] o e = absurd (cc)
total-adjusted n k f (p ∷ more) o e = elim (equal_or_not k p.0) [
  | inl s ↦
      let t : Some p.1 ≡ Some o = rw s.0 at e in
      let u : p.1 ≡ o = cc in
      rw (s.0, ← u) (omega (arith, total-cons n p more, total-cons n (p.0, f p.1) more))
  | inr s ↦
      rw s.0 (omega (arith, total-cons n p more, total-cons n p (adjusted k f more), total-adjusted n k f more o (rw s.0 at e)))
]

all_dependents-same : (k : ℕ) (f : Instance → Instance) (live : Instances) → ((o : Instance) → (f o).dependents ≡ o.dependents) → all_dependents (adjusted k f live) ≡ all_dependents live
all_dependents-same k f [] h = refl
all_dependents-same k f (p ∷ more) h = elim (equal_or_not k p.0) [
  | inl s ↦ rw s.0 (ap (λ ms. ms ++ all_dependents more) (h p.1))
  | inr s ↦ rw s.0 (ap (λ ms. p.1.dependents ++ ms) (all_dependents-same k f more h))
]

-- one list, with the others that stay if its instance goes
total-without : (n k : ℕ) (live : Instances) → total n (without k live) + times n (dependents_in (at live k)) ≤ total n live
total-without n k [] = let z = times-none n in omega arith
total-without n k (p ∷ more) = elim (equal_or_not k p.0) [
  | inl s ↦ rw s.0 (omega (arith, total-cons n p more, total-without n k more))
  | inr s ↦ rw s.0 (omega (arith, total-cons n p more, total-cons n p (without k more), total-without n k more))
]

-- each list is one of all
in-total : (n k : ℕ) (live : Instances) → times n (dependents_in (at live k)) ≤ total n live
in-total n k live = omega (arith, total-without n k live)

of-total : (n : ℕ) (live : Instances) (w : Owner) → times n (dependents_of live w) ≤ total n live
of-total n live (owners.Instance m) = in-total n m live
of-total n live (owners.Context context) = omega (arith, times-none n)
of-total n live owners.Borrower = omega (arith, times-none n)

-- ---- each stands among the dependents of its owner alone

-- as often among all as among those of its owner
abbrev pub HasOwner : Instances → ℕ → Option Instance → Type 0
HasOwner live n o = IfSome o (λ x. times n (dependents_of live x.owner) ≡ total n live)

owner-is : (live : Instances) (next n : ℕ) (x : Instance) → AreOwned live next → at live n ≡ Some x → times n (dependents_of live x.owner) ≡ total n live
owner-is live next n x h e = rw e at (h.owner n)

-- the same owner, and lists that have it as often
owner-same : (old new : Instances) (n : ℕ) (o : Option Instance) (f : Instance → Instance) → ((x : Instance) → (f x).owner ≡ x.owner) → ((w : Owner) → times n (dependents_of new w) ≡ times n (dependents_of old w)) → total n new ≡ total n old → HasOwner old n o → HasOwner new n (option_map f o)
owner-same old new n None f same lists all h = h
owner-same old new n (Some x) f same lists all h = rw (same x, lists x.owner, all) h

owner-kept : (old new : Instances) (n : ℕ) (o : Option Instance) → ((w : Owner) → times n (dependents_of new w) ≡ times n (dependents_of old w)) → total n new ≡ total n old → HasOwner old n o → HasOwner new n o
owner-kept old new n None lists all h = h
owner-kept old new n (Some x) lists all h = rw (lists x.owner, all) h

dependents_of-by : (old new : Instances) (n : ℕ) → ((m : ℕ) → times n (dependents_in (at new m)) ≡ times n (dependents_in (at old m))) → (w : Owner) → times n (dependents_of new w) ≡ times n (dependents_of old w)
dependents_of-by old new n h (owners.Instance m) = h m
dependents_of-by old new n h (owners.Context context) = refl
dependents_of-by old new n h owners.Borrower = refl

-- ---- changes that leave the lists and the owners

module _ (k : ℕ) (f : Instance → Instance) (same_list : (o : Instance) → (f o).dependents ≡ o.dependents) where
  dependents_in-map : (o : Option Instance) → dependents_in (option_map f o) ≡ dependents_in o
  dependents_in-map None = refl
  dependents_in-map (Some o) = same_list o

  dependents_in-same : (live : Instances) (m : ℕ) → dependents_in (at (adjusted k f live) m) ≡ dependents_in (at live m)
  dependents_in-same live m = elim (equal_or_not m k) [
    | inl s ↦ rw (s.1, at-adjusted k f live) (dependents_in-map (at live k))
    | inr s ↦ rw (at-adjusted_other m k f live s.1) refl
  ]

  same-lists : (live : Instances) (n : ℕ) (w : Owner) → times n (dependents_of (adjusted k f live) w) ≡ times n (dependents_of live w)
  same-lists live n w = dependents_of-by live (adjusted k f live) n (λ m. ap (times n) (dependents_in-same live m)) w

  same-total : (live : Instances) (n : ℕ) → total n (adjusted k f live) ≡ total n live
  same-total live n = ap (times n) (all_dependents-same k f live same_list)

-- the owner of an instance behind a change of one that leaves the owners
owners-by : (live : Instances) (k n : ℕ) (f : Instance → Instance) → ((x : Instance) → (f x).owner ≡ x.owner) → ((w : Owner) → times n (dependents_of (adjusted k f live) w) ≡ times n (dependents_of live w)) → total n (adjusted k f live) ≡ total n live → HasOwner live n (at live n) → HasOwner (adjusted k f live) n (at (adjusted k f live) n)
owners-by live k n f same lists all h =
    let new : Instances = adjusted k f live in
    elim (equal_or_not n k) [
      | inl s ↦
          let there : at new n ≡ option_map f (at live n) = rw s.1 (at-adjusted k f live) in
          subst (HasOwner new n) (sym there) (owner-same live new n (at live n) f same lists all h)
      | inr s ↦
          subst (HasOwner new n) (sym (at-adjusted_other n k f live s.1)) (owner-kept live new n (at live n) lists all h)
    ]

pub owned-same : (live : Instances) (next k : ℕ) (f : Instance → Instance) → ((o : Instance) → (f o).dependents ≡ o.dependents) → ((o : Instance) → (f o).owner ≡ o.owner) → AreOwned live next → AreOwned (adjusted k f live) next
owned-same live next k f list owner h = record {
  once = λ n. rw (same-total k f list live n) (h.once n);
  owner = λ n. owners-by live k n f owner (same-lists k f list live n) (same-total k f list live n) (h.owner n);
  given = λ n p. h.given n (rw (same-total k f list live n) at p);
}

-- ---- a change of the list in which an instance stands

-- the numbers but one stand in the list as often as before, and that one at most once
pub record Relists (n : ℕ) (g : List ℕ → List ℕ) : Type 0 where
  pub others : (k : ℕ) (ms : List ℕ) → k ≢ n → times k (g ms) ≡ times k ms
  pub most : (ms : List ℕ) → times n (g ms) ≤ 1

relists-put_last : (n : ℕ) → Relists n (put_last n)
relists-put_last n = record { others = λ k ms h. times-put_last_other k n ms h; most = λ ms. omega (arith, times-put_last n ms) }

relists-all_but : (n : ℕ) → Relists n (all_but n)
relists-all_but n = record { others = λ k ms h. times-all_but_other k n ms h; most = λ ms. omega (arith, times-all_but n ms) }

abbrev pub relisted : (List ℕ → List ℕ) → Instance → Instance
relisted g o = record o { dependents = g o.dependents }

module _ (live : Instances) (m : ℕ) (g : List ℕ → List ℕ) (y : Instance) (there : at live m ≡ Some y) where
  list-new : dependents_in (at (adjusted m (relisted g) live) m) ≡ g y.dependents
  list-new = rw (at-adjusted m (relisted g) live, there) refl

  lists-other : (n k : ℕ) → Relists n g → k ≢ n → (w : Owner) → times k (dependents_of (adjusted m (relisted g) live) w) ≡ times k (dependents_of live w)
  lists-other n k r h w =
      dependents_of-by live (adjusted m (relisted g) live) k
      (λ j. elim (equal_or_not j m) [
        | inl s ↦ rw (s.1, list-new, there) (r.others k y.dependents h)
        | inr s ↦ rw (at-adjusted_other j m (relisted g) live s.1) refl
      ]) w

  total-other : (n k : ℕ) → Relists n g → k ≢ n → total k (adjusted m (relisted g) live) ≡ total k live
  total-other n k r h =
      let a = total-adjusted k m (relisted g) live y there in
      let b = r.others k y.dependents h in
      omega arith

  -- it stands in no other list
  total-new : (n : ℕ) → times n y.dependents ≡ total n live → total n (adjusted m (relisted g) live) ≡ times n (g y.dependents)
  total-new n h = let a = total-adjusted n m (relisted g) live y there in omega arith

  still-owns : (n : ℕ) (w : Owner) → Owns live n w → Owns (adjusted m (relisted g) live) n w
  still-owns n w o = elim (equal_or_not n m) [
    | inl s ↦
        let is : at (adjusted m (relisted g) live) n ≡ Some (relisted g o.0) = rw (s.1, at-adjusted m (relisted g) live, ← s.1, o.1) refl in
        (relisted g o.0, is, o.2)
    | inr s ↦ (o.0, at-adjusted_other n m (relisted g) live s.1 ∙ o.1, o.2)
  ]

has-owner : (live : Instances) (n m : ℕ) → Owns live n (owners.Instance m) → times n (dependents_in (at live m)) ≡ total n live → HasOwner live n (at live n)
has-owner live n m o h =
    let is : times n (dependents_of live o.0.owner) ≡ total n live = rw o.2 h in
    subst (HasOwner live n) (sym o.1) is

owned-relisted : (live : Instances) (next n m : ℕ) (g : List ℕ → List ℕ) (y : Instance) → Relists n g → at live m ≡ Some y → Owns live n (owners.Instance m) → (0 < n) × (n < next) → AreOwned live next → AreOwned (adjusted m (relisted g) live) next
owned-relisted live next n m g y r there o given h =
    let new : Instances = adjusted m (relisted g) live in
    let before : times n (dependents_of live o.0.owner) ≡ total n live = owner-is live next n o.0 h o.1 in
    let alone : times n y.dependents ≡ total n live = rw (o.2, there) at before in
    let now : total n new ≡ times n (g y.dependents) = total-new live m g y there n alone in
    record {
      once = λ k. elim (equal_or_not k n) [
        | inl s ↦ rw (s.1, now) (r.most y.dependents)
        | inr s ↦ rw (total-other live m g y there n k r s.1) (h.once k)
      ];
      owner = λ k. elim (equal_or_not k n) [
        | inl s ↦
            let is : times n (dependents_in (at new m)) ≡ total n new = rw (list-new live m g y there) (sym now) in
            rw s.1 (has-owner new n m (still-owns live m g y there n (owners.Instance m) o) is)
        | inr s ↦
            owners-by live m k (relisted g) (λ x. refl) (lists-other live m g y there n k r s.1) (total-other live m g y there n k r s.1) (h.owner k)
      ];
      given = λ k p. elim (equal_or_not k n) [
        | inl s ↦ rw s.1 given
        | inr s ↦ h.given k (rw (total-other live m g y there n k r s.1) at p)
      ];
    }

pub owned-joined : (live : Instances) (next n m : ℕ) → Some m ≡ owner_at n live → (0 < n) × (n < next) → AreOwned live next → AreOwned (with_dependent n (owners.Instance m) live) next
owned-joined live next n m e given h =
    let y = owner-lives n m live e in
    owned-relisted live next n m (put_last n) y.0 (relists-put_last n) y.1 (owns-by n m live e) given h

pub owned-taken : (live : Instances) (next n : ℕ) (o : Option ℕ) → o ≡ owner_at n live → (0 < n) × (n < next) → AreOwned live next → AreOwned (taken_from o n live) next
owned-taken live next n None e given h = h
owned-taken live next n (Some m) e given h =
    let y = owner-lives n m live e in
    owned-relisted live next n m (all_but n) y.0 (relists-all_but n) y.1 (owns-by n m live e) given h

-- ---- an instance gets an owner

no-list : (live : Instances) (w : Owner) → None ≡ number_of live w → dependents_of live w ≡ []
no-list live (owners.Instance k) h = ap dependents_in (absent-cond (at live k) k (sym h))
no-list live (owners.Context context) h = refl
no-list live owners.Borrower h = refl

-- one that no live instance owns stands nowhere
total-alone : (live : Instances) (next n : ℕ) (x : Instance) → None ≡ owner_at n live → at live n ≡ Some x → AreOwned live next → total n live ≡ 0
total-alone live next n x e there h =
    let none : dependents_of live x.owner ≡ [] = no-list live x.owner (rw there at e) in
    let is : times n [] ≡ total n live = rw none at (owner-is live next n x h there) in
    sym is ∙ times-none n

abbrev pub owned_now : Owner → Instance → Instance
owned_now w o = record o { owner = w }

-- one that stands nowhere is given to an owner
owned-given : (live : Instances) (next n m : ℕ) (y : Instance) → total n live ≡ 0 → at live m ≡ Some y → (0 < n) × (n < next) → AreOwned live next → AreOwned (owned_by (owners.Instance m) n (with_dependent n (owners.Instance m) live)) next
owned-given live next n m y none there given h =
    let f = owned_now (owners.Instance m) in
    let r = relists-put_last n in
    let mid : Instances = adjusted m (relisted (put_last n)) live in
    let new : Instances = adjusted n f mid in
    let stays : (k : ℕ) → total k new ≡ total k mid = λ k. same-total n f (λ x. refl) mid k in
    let fewer = in-total n m live in
    let list : times n y.dependents ≡ total n live = let is : times n y.dependents ≤ total n live = rw there at fewer in omega arith in
    let one : total n new ≡ 1 = stays n ∙ total-new live m (put_last n) y there n list ∙ times-put_last n y.dependents in
    let other : (k : ℕ) → k ≢ n → total k new ≡ total k live = λ k s. stays k ∙ total-other live m (put_last n) y there n k r s in
    record {
      once = λ k. elim (equal_or_not k n) [
        | inl s ↦ rw s.1 (omega (arith, one))
        | inr s ↦ rw (other k s.1) (h.once k)
      ];
      owner = λ k. elim (equal_or_not k n) [
        | inl s ↦
            let is : dependents_in (at new m) ≡ put_last n y.dependents = dependents_in-same n f (λ x. refl) mid m ∙ list-new live m (put_last n) y there in
            let all : times n (dependents_in (at new m)) ≡ total n new = rw is (times-put_last n y.dependents ∙ sym one) in
            rw s.1 (subst (HasOwner new n) (sym (at-adjusted n f mid)) (given-to new n m f (λ x. refl) (at mid n) all))
        | inr s ↦
            let before : HasOwner mid k (at mid k) = owners-by live m k (relisted (put_last n)) (λ x. refl) (lists-other live m (put_last n) y there n k r s.1) (total-other live m (put_last n) y there n k r s.1) (h.owner k) in
            subst (HasOwner new k) (sym (at-adjusted_other k n f mid s.1)) (owner-kept mid new k (at mid k) (same-lists n f (λ x. refl) mid k) (stays k) before)
      ];
      given = λ k p. elim (equal_or_not k n) [
        | inl s ↦ rw s.1 given
        | inr s ↦ h.given k (rw (other k s.1) at p)
      ];
    }
  where
    given-to : (new : Instances) (n m : ℕ) (f : Instance → Instance) → ((x : Instance) → (f x).owner ≡ owners.Instance m) → (o : Option Instance) → times n (dependents_in (at new m)) ≡ total n new → HasOwner new n (option_map f o)
    given-to new n m f is None all = tt
    given-to new n m f is (Some x) all = rw (is x) all

pub owned-adopted : (live : Instances) (next n m : ℕ) (x y : Instance) → at live n ≡ Some x → at live m ≡ Some y → None ≡ owner_at n live → (0 < n) × (n < next) → AreOwned live next → AreOwned (with_owner n (owners.Instance m) live) next
owned-adopted live next n m x y there to alone given h = owned-given live next n m y (total-alone live next n x alone there h) to given h

-- ---- an instance leaves the list of any owner

all_but-absent : (n : ℕ) (ms : List ℕ) → times n ms ≡ 0 → all_but n ms ≡ ms
all_but-absent n [] h = refl
all_but-absent n (m ∷ ms) h = elim (equal_or_not m n) [
  | inl s ↦ absurd (let first : times n (m ∷ ms) ≡ 1 + times n ms = rw s.0 at (times-cons n m ms) in omega arith)
  | inr s ↦
      let first : times n (m ∷ ms) ≡ 0 + times n ms = rw s.0 at (times-cons n m ms) in
      rw s.0 (ap (λ (r : List ℕ). m ∷ r) (all_but-absent n ms (omega arith)))
]

adjusted-still : (m : ℕ) (f : Instance → Instance) (live : Instances) (y : Instance) → at live m ≡ Some y → f y ≡ y → adjusted m f live ≡ live
adjusted-still m f [] y e h = refl
adjusted-still m f (p ∷ more) y e h = elim (equal_or_not m p.0) [
  | inl s ↦
      let t : Some p.1 ≡ Some y = rw s.0 at e in
      let same : p.1 ≡ y = cc in
      let stays : f p.1 ≡ p.1 = subst (λ (z : Instance). f z ≡ z) (sym same) h in
      rw s.0 (ap (λ (z : Instance). (p.0, z) ∷ more) stays)
  | inr s ↦ rw s.0 (ap (λ (r : Instances). p ∷ r) (adjusted-still m f more y (rw s.0 at e) h))
]

-- it stands in no list but that of its owner
in-no_other : (live : Instances) (next n m : ℕ) (x y : Instance) → at live n ≡ Some x → at live m ≡ Some y → AreOwned live next → (w : Owner) → x.owner ≡ w → (w ≡ owners.Instance m → ⊥) → times n y.dependents ≡ 0
in-no_other live next n m x y there to h (owners.Instance k) is apart =
    let all : times n (dependents_of live x.owner) ≡ total n live = owner-is live next n x h there in
    let lists : times n (dependents_in (at live k)) ≡ total n live = rw is at all in
    let other : k ≢ m = λ e. apart (ap (λ j. owners.Instance j) e) in
    let two : total n (without m live) + times n (dependents_in (at live m)) ≤ total n live = total-without n m live in
    let both : total n (without m live) + times n y.dependents ≤ total n live = rw to at two in
    let one : times n (dependents_in (at (without m live) k)) ≤ total n (without m live) = in-total n k (without m live) in
    let first : times n (dependents_in (at live k)) ≤ total n (without m live) = rw (at-without_other k m live other) at one in
    omega arith
in-no_other live next n m x y there to h (owners.Context context) is apart =
    let all : times n (dependents_of live x.owner) ≡ total n live = owner-is live next n x h there in
    let none : times n [] ≡ total n live = rw is at all in
    let some : times n (dependents_in (at live m)) ≤ total n live = in-total n m live in
    let few : times n y.dependents ≤ total n live = rw to at some in
    let zero_times = times-none n in
    omega arith
in-no_other live next n m x y there to h owners.Borrower is apart =
    let all : times n (dependents_of live x.owner) ≡ total n live = owner-is live next n x h there in
    let none : times n [] ≡ total n live = rw is at all in
    let some : times n (dependents_in (at live m)) ≤ total n live = in-total n m live in
    let few : times n y.dependents ≤ total n live = rw to at some in
    let zero_times = times-none n in
    omega arith

released-by : (live : Instances) (next n m : ℕ) (x y : Instance) → at live n ≡ Some x → at live m ≡ Some y → (0 < n) × (n < next) → AreOwned live next → (w : Owner) → x.owner ≡ w → AreOwned (without_dependent n (owners.Instance m) live) next
released-by live next n m x y there to given h (owners.Instance k) is = elim (equal_or_not k m) [
  | inl s ↦ owned-relisted live next n m (all_but n) y (relists-all_but n) to (x, there, is ∙ ap (λ j. owners.Instance j) s.1) given h
  | inr s ↦ stays (in-no_other live next n m x y there to h (owners.Instance k) is (λ (e : owners.Instance k ≡ owners.Instance m). s.1 (cc)))
]
  where
    stays : times n y.dependents ≡ 0 → AreOwned (without_dependent n (owners.Instance m) live) next
    stays none = rw (adjusted-still m (relisted (all_but n)) live y to (ap (λ (ms : List ℕ). let r : Instance = record y { dependents = ms } in r) (all_but-absent n y.dependents none))) h
released-by live next n m x y there to given h (owners.Context context) is =
    let none = in-no_other live next n m x y there to h (owners.Context context) is (λ (e : owners.Context context ≡ owners.Instance m). cc) in
    rw (adjusted-still m (relisted (all_but n)) live y to (ap (λ (ms : List ℕ). let r : Instance = record y { dependents = ms } in r) (all_but-absent n y.dependents none))) h
released-by live next n m x y there to given h owners.Borrower is =
    let none = in-no_other live next n m x y there to h owners.Borrower is (λ (e : owners.Borrower ≡ owners.Instance m). cc) in
    rw (adjusted-still m (relisted (all_but n)) live y to (ap (λ (ms : List ℕ). let r : Instance = record y { dependents = ms } in r) (all_but-absent n y.dependents none))) h

pub owned-released : (live : Instances) (next n m : ℕ) (x y : Instance) → at live n ≡ Some x → at live m ≡ Some y → (0 < n) × (n < next) → AreOwned live next → AreOwned (without_dependent n (owners.Instance m) live) next
owned-released live next n m x y there to given h = released-by live next n m x y there to given h x.owner refl

-- ---- an instance comes, or goes

pub owned-born : (live : Instances) (next : ℕ) (component : Component) (owner : Owner) (fields : List (ℕ × Value)) → at live next ≡ None → AreOwned live next → AreOwned (with_newborn next component owner fields live) (next + 1)
owned-born live next component owner fields absent h =
    let o : Instance = newborn component owner fields in
    let new : Instances = live ++ (next, o) ∷ [] in
    let all : all_dependents new ≡ all_dependents live = flat_map-append (λ (p : ℕ × Instance). p.1.dependents) live ((next, o) ∷ []) ∙ append-none (all_dependents live) in
    let stays : (k : ℕ) → total k new ≡ total k live = λ k. ap (times k) all in
    let lists : (k : ℕ) (w : Owner) → times k (dependents_of new w) ≡ times k (dependents_of live w) = λ k w. dependents_of-by live new k (λ m. ap (times k) (list-born live next o absent refl m)) w in
    record {
      once = λ k. rw (stays k) (h.once k);
      owner = λ k. elim (equal_or_not k next) [
        | inl s ↦
            let few = of-total next live owner in
            let none = not-yet live next h in
            let is : times next (dependents_of new owner) ≡ total next new = rw (lists next owner, stays next) (omega arith) in
            rw s.1 (subst (HasOwner new next) (sym (at-added next o live absent)) is)
        | inr s ↦
            subst (HasOwner new k) (sym (at-added_other k next o live s.1)) (owner-kept live new k (at live k) (lists k) (stays k) (h.owner k))
      ];
      given = λ k p. let q = h.given k (rw (stays k) at p) in (q.0, let b = q.1 in omega arith);
    }
  where
    append-none : (ms : List ℕ) → ms ++ [] ≡ ms
    append-none [] = refl
    append-none (m ∷ ms) = ap (λ r. m ∷ r) (append-none ms)

    list-born : (live : Instances) (n : ℕ) (o : Instance) → at live n ≡ None → o.dependents ≡ [] → (m : ℕ) → dependents_in (at (live ++ (n, o) ∷ []) m) ≡ dependents_in (at live m)
    list-born live n o absent none m = elim (equal_or_not m n) [
      | inl s ↦ rw (s.1, at-added n o live absent, absent) none
      | inr s ↦ rw (at-added_other m n o live s.1) refl
    ]

    not-yet : (live : Instances) (next : ℕ) → AreOwned live next → total next live ≡ 0
    not-yet live next h = by (total next live) refl
      where
        by : (t : ℕ) → total next live ≡ t → t ≡ 0
        by zero e = refl
        by (suc t) e = absurd (let b : next < next = (h.given next (omega arith)).1 in omega arith)

pub owned-gone : (live : Instances) (next n : ℕ) → AreOwned live next → AreOwned (without n live) next
owned-gone live next n h =
    let new : Instances = without n live in
    let fewer : (k : ℕ) → total k new ≤ total k live = λ k. let a = total-without k n live in omega arith in
    record {
      once = λ k. let a = fewer k in let b = h.once k in omega arith;
      owner = λ k. elim (equal_or_not k n) [
        | inl s ↦ rw s.1 (subst (HasOwner new n) (sym (at-without n live)) tt)
        | inr s ↦
            subst (HasOwner new k) (sym (at-without_other k n live s.1)) (left live n k (at live k) (h.owner k))
      ];
      given = λ k p. let a = fewer k in h.given k (omega arith);
    }
  where
    left-of : (live : Instances) (n k : ℕ) (w : Owner) → times k (dependents_of live w) ≡ total k live → times k (dependents_of (without n live) w) ≡ total k (without n live)
    left-of live n k (owners.Instance m) e = elim (equal_or_not m n) [
      | inl s ↦
          let a = total-without k n live in
          let is : times k (dependents_in (at live n)) ≡ total k live = rw s.1 at e in
          rw (s.1, at-without n live) (omega (arith, times-none k))
      | inr s ↦
          let a = total-without k n live in
          let b = in-total k m (without n live) in
          let same : times k (dependents_in (at (without n live) m)) ≡ times k (dependents_in (at live m)) = rw (at-without_other m n live s.1) refl in
          omega arith
    ]
    left-of live n k (owners.Context context) e = let a = total-without k n live in let z = times-none k in omega arith
    left-of live n k owners.Borrower e = let a = total-without k n live in let z = times-none k in omega arith

    left : (live : Instances) (n k : ℕ) (o : Option Instance) → HasOwner live k o → HasOwner (without n live) k o
    left live n k None h = h
    left live n k (Some x) h = left-of live n k x.owner h

pub owned-none : (next : ℕ) → AreOwned [] next
owned-none next = record {
  once = λ n. omega (arith, times-none n);
  owner = λ n. tt;
  given = λ n p. absurd (let z = times-none n in omega arith);
}

-- ---- how many there are

length-all_but : (n : ℕ) (ms : List ℕ) → length (all_but n ms) + times n ms ≡ length ms
length-all_but n [] = omega (arith, times-none n)
length-all_but n (m ∷ ms) = elim (equal_or_not m n) [
  | inl s ↦ rw (s.0, times-cons n m ms, s.0) (omega (arith, length-all_but n ms))
  | inr s ↦ rw (s.0, times-cons n m ms, s.0) (omega (arith, length-all_but n ms))
]

-- numbers below a bound of which none stands twice are at most so many
at_most : (bound : ℕ) (ns : List ℕ) → ((n : ℕ) → times n ns ≤ 1) → ((n : ℕ) → 0 < times n ns → n < bound) → length ns ≤ bound
at_most zero [] once below = omega arith
at_most zero (m ∷ ns) once below = absurd (let b = below m (times-first m ns) in omega arith)
  where
    times-first : (m : ℕ) (ns : List ℕ) → 0 < times m (m ∷ ns)
    times-first m ns = elim (equal_or_not m m) [
      | inl s ↦ rw (times-cons m m ns, s.0) (omega arith)
      | inr s ↦ absurd (s.1 refl)
    ]
at_most (suc bound) ns once below =
    let rest : List ℕ = all_but bound ns in
    let few = at_most bound rest (λ n. elim (equal_or_not n bound) [
      | inl s ↦ rw s.1 (omega (arith, times-all_but bound ns))
      | inr s ↦ rw (times-all_but_other n bound ns s.1) (once n)
    ]) (λ n p. elim (equal_or_not n bound) [
      | inl s ↦ absurd (let z = times-all_but bound ns in let q = rw s.1 at p in omega arith)
      | inr s ↦ let b = below n (rw (times-all_but_other n bound ns s.1) at p) in let r = s.1 in grind arith
    ]) in
    let count = length-all_but bound ns in
    let one = once bound in
    omega arith

-- an instance has fewer dependents than the next number
pub few-dependents : (live : Instances) (next m : ℕ) → 0 < next → AreOwned live next → length (dependents_in (at live m)) < next
few-dependents live next m positive h =
    let ns : List ℕ = dependents_in (at live m) in
    let part : (n : ℕ) → times n ns ≤ total n live = λ n. in-total n m live in
    let no_zero : times 0 ns ≡ 0 = by (times 0 ns) refl in
    let all : length (0 ∷ ns) ≤ next = at_most next (0 ∷ ns) (λ n. elim (equal_or_not 0 n) [
      | inl s ↦ rw (times-cons n 0 ns, s.0) (rw (← s.1) (omega (arith, no_zero)))
      | inr s ↦ rw (times-cons n 0 ns, s.0) (let a = part n in let b = h.once n in omega arith)
    ]) (λ n p. elim (equal_or_not 0 n) [
      | inl s ↦ rw (← s.1) positive
      | inr s ↦ (h.given n (let a = part n in let q = rw (times-cons n 0 ns, s.0) at p in omega arith)).1
    ]) in
    omega arith
  where
    by : (t : ℕ) → times 0 (dependents_in (at live m)) ≡ t → t ≡ 0
    by zero e = refl
    by (suc t) e = absurd (let a = in-total 0 m live in let b = (h.given 0 (omega arith)).0 in omega arith)
