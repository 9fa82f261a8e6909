-- The first body of a destruction starts at least as often as its mark stands with something behind it: so once if the instance
-- is gone.
use Rattle.std.proofs.Common.{ℕ, ◌+◌, ◌≡◌, ◌≤◌, ◌⊎◌, List, [], ◌∷◌, inl, inr, Bool, true, false, refl, sym, subst, arith}
use Rattle.std.specs.Prelude.{nat_eq}
use Rattle.cdi_base.specs.declared.entry.Entry.TheVariants as entries
use Rattle.cdi_base.specs.declared.place.Place.TheVariants as places
use Rattle.cdi_base.specs.declared.place.InterceptorMethod.TheVariants as roles
use Rattle.cdi_store.specs.declared.instance.Component.TheVariants as components
use Rattle.cdi_store.specs.declared.instance.Owner.{Owner}
use Rattle.cdi_store.specs.declared.instance.Owner.TheVariants as owners
use Rattle.cdi_store.proofs.Numbers.{equal_or_not}
use Rattle.cdi_machine.specs.Tables.{Tables, Code, Managed}
use Rattle.cdi_ledger.specs.Whose.{IsIn}
use Rattle.cdi_ledger.specs.Ledger.{Item, Wrote, Between, Born, InOrder}
use Rattle.cdi_ledger.specs.Ends.{Each, IsOfClass, marks, one_more_if}
use Rattle.cdi_ledger.specs.Callbacks.{IsMark, IsFirstOf, Holds, StartsFarewell}
use Rattle.cdi_ledger.proofs.Phases.{eq_same}
use Rattle.cdi_ledger.proofs.Marks.{once_in}
use Rattle.cdi_ledger.proofs.Ledgered.{shorter}
use Rattle.cdi_whole.specs.Beginnings.{HasFirst, IsFirstStart, IsRightBehindMark, StartsAtMarkOnly}
use Rattle.cdi_whole.proofs.AtMost.{at_most}

is_mark : (n : ℕ) (h : List Item) → IsMark n h ⊎ (IsMark n h → ⊥)
is_mark n [] = inr (λ x. x)
is_mark n (Between m ∷ h) = elim (equal_or_not m n) [ inl s ↦ inl s.1 | inr s ↦ inr s.1 ]
is_mark n (Wrote e ∷ h) = inr (λ x. x)
is_mark n (Born m component owner ∷ h) = inr (λ x. x)

module _ (tables : Tables) (n : ℕ) (c : Managed) (first : HasFirst c.pre_destroy.chain c.pre_destroy.callbacks) (whole : List Item) (is : IsOfClass tables whole n c)
    (once : (k : ℕ) (a b : _) (o p : _) → IsIn (Born k a o) whole → IsIn (Born k b p) whole → (a ≡ b) × (o ≡ p)) where
  abbrev Least : List Item → ℕ → Type 0
  Least h k = (IsMark n h → marks n h ≤ k + 1) × ((IsMark n h → ⊥) → marks n h ≤ k)

  -- what stands behind the mark starts it
  starts : (x : Item) (m : ℕ) (h : List Item) → m ≡ n → ((y : Item) → IsIn y h → IsIn y whole) → IsRightBehindMark tables x (Between m ∷ h) → StartsFarewell tables n c x (Between m ∷ h)
  starts x m h e inside r =
      let b = r.0 in
      let s = once n b.0 (components.Bean is.index) b.1 is.owner (subst (λ z. IsIn (Born z b.0 b.1) whole) e (inside (Born m b.0 b.1) b.2)) is.born in
      let here : IsIn (Born n (components.Bean is.index) b.1) h = subst (λ z. IsIn (Born n z b.1) h) s.0 (subst (λ z. IsIn (Born z b.0 b.1) h) e b.2) in
      let class : IsOfClass tables h m c = record { index = is.index; owner = b.1; born = subst (λ z. IsIn (Born z (components.Bean is.index) b.1) h) (sym e) here; bean = is.bean; known = is.known; is = is.is } in
      by b.1 here c.pre_destroy.chain refl c.pre_destroy.callbacks refl first (r.1 c class)
    where
      by : (o : Owner) → IsIn (Born n (components.Bean is.index) o) h → (chain : List ℕ) → c.pre_destroy.chain ≡ chain → (callbacks : List Code) → c.pre_destroy.callbacks ≡ callbacks → HasFirst chain callbacks
          → IsFirstStart tables h m chain callbacks x → StartsFarewell tables n c x (Between m ∷ h)
      by o here [] ec [] es q f = absurd q
      by o here [] ec (k ∷ callbacks) es q f =
          subst (λ z. StartsFarewell tables n c z (Between m ∷ h)) (sym f) (
            record { index = is.index; owner = o; born = inr here; bean = is.bean; known = is.known; is = is.is },
            subst (λ z. IsFirstOf tables (Between m ∷ h) n z c.pre_destroy.callbacks m k.place) (sym ec) (subst (λ z. IsFirstOf tables (Between m ∷ h) n [] z m k.place) (sym es) (e, refl)),
          )
      by o here (i ∷ chain) ec callbacks es q f =
          subst (λ z. StartsFarewell tables n c z (Between m ∷ h)) (sym f.4) (
            record { index = is.index; owner = o; born = inr here; bean = is.bean; known = is.known; is = is.is },
            subst (λ z. IsFirstOf tables (Between m ∷ h) n z c.pre_destroy.callbacks f.0 (places.Interceptor (f.1).name roles.PreDestroy)) (sym ec) (f.1, inr (subst (λ z. IsIn (Born f.0 (components.Interceptor i) (owners.Instance z)) h) e f.2), f.3, refl),
          )

  one : (h : List Item) (k : ℕ) → Least h k → marks n h ≤ k + 1
  one h k l = elim (is_mark n h) [ inl m ↦ l.0 m | inr m ↦ let a = l.1 m in omega arith ]

  marked : (m k : ℕ) (h : List Item) → marks n h ≤ k → Least (Between m ∷ h) k
  marked m k h l = ((λ e. same (nat_eq m n)), other)
    where
      same : (b : Bool) → one_more_if b (marks n h) ≤ k + 1
      same true = omega arith
      same false = omega arith

      other : (m ≡ n → ⊥) → marks n (Between m ∷ h) ≤ k
      other d = elim (equal_or_not m n) [ inl s ↦ absurd (d s.1) | inr s ↦ subst (λ z. one_more_if z (marks n h) ≤ k) (sym s.0) l ]

  none_behind : (x : Item) (h : List Item) → ((y : Item) → IsIn y h → IsIn y whole) → IsRightBehindMark tables x h → (StartsFarewell tables n c x h → ⊥) → IsMark n h → ⊥
  none_behind x [] inside r d m = m
  none_behind x (Between j ∷ h) inside r d m = d (starts x j h m (λ y z. inside y (inr z)) r)
  none_behind x (Wrote e ∷ h) inside r d m = m
  none_behind x (Born j component owner ∷ h) inside r d m = m

  least : (h : List Item) (k : ℕ) → Holds (StartsFarewell tables n c) h k → Each (IsRightBehindMark tables) h → ((y : Item) → IsIn y h → IsIn y whole) → Least h k
  least [] k Holds.never e inside = ((λ m. absurd m), λ d. omega arith)
  least (Wrote x ∷ h) _ (Holds.once_more {k = k} p q) e inside = ((λ m. absurd m), λ d. one h k (least h k q e.1 (λ y z. inside y (inr z))))
  least (Between m ∷ h) _ (Holds.once_more p q) e inside = absurd p
  least (Born m component owner ∷ h) _ (Holds.once_more p q) e inside = absurd p
  least (Between m ∷ h) k (Holds.passes p q) e inside = marked m k h ((least h k q e.1 (λ y z. inside y (inr z))).1 (none_behind (Between m) h (λ y z. inside y (inr z)) e.0 p))
  least (Wrote x ∷ h) k (Holds.passes p q) e inside = ((λ m. absurd m), λ d. (least h k q e.1 (λ y z. inside y (inr z))).1 (none_behind (Wrote x) h (λ y z. inside y (inr z)) e.0 p))
  least (Born m component owner ∷ h) k (Holds.passes p q) e inside = ((λ m. absurd m), λ d. (least h k q e.1 (λ y z. inside y (inr z))).1 (none_behind (Born m component owner) h (λ y z. inside y (inr z)) e.0 p))

-- behind a `gone` there is no mark
not_last : (n : ℕ) (h : List Item) → InOrder h → IsIn (Wrote (entries.Gone n)) h → IsMark n h → ⊥
not_last n [] o g m = m
not_last n (Wrote e ∷ h) o g m = m
not_last n (Born j component owner ∷ h) o g m = m
not_last n (Between j ∷ h) o g m =
    let a = (once_in (Between j ∷ h) o n).0 in
    let b = (once_in h (shorter (Between j) h o) n).1 (elim g [ inl q ↦ cc | inr q ↦ q ]) in
    two (marks n h) b (subst (λ z. one_more_if z (marks n h) ≤ 1) (subst (λ z. nat_eq z n ≡ true) (sym m) (eq_same n)) a)
  where
    two : (k : ℕ) → k ≡ 1 → k + 1 ≤ 1 → ⊥
    two k e l = omega arith

pub starts_exactly : (tables : Tables) (h : List Item) (n k : ℕ) (c : Managed) → InOrder h → ((j : ℕ) (a b : _) (o p : _) → IsIn (Born j a o) h → IsIn (Born j b p) h → (a ≡ b) × (o ≡ p)) → Each (IsRightBehindMark tables) h → Each (StartsAtMarkOnly tables) h
    → Holds (StartsFarewell tables n c) h k → (k ≤ 1) × (IsOfClass tables h n c → HasFirst c.pre_destroy.chain c.pre_destroy.callbacks → IsIn (Wrote (entries.Gone n)) h → k ≡ 1)
starts_exactly tables h n k c order born begins only q = (
  at_most tables n c h k (once_in h order n).0 q only,
  λ is first g.
      let a = (least tables n c first h is born h k q begins (λ y z. z)).1 (not_last n h order g) in
      exactly (marks n h) a ((once_in h order n).1 g) (at_most tables n c h k (once_in h order n).0 q only),
)
  where
    exactly : (m : ℕ) → m ≤ k → m ≡ 1 → k ≤ 1 → k ≡ 1
    exactly m a b d = omega arith
