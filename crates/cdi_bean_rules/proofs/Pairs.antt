-- Whether two items of a list have a property, looked for from the front.
use Rattle.std.proofs.Common.{◌≡◌, ℕ, ◌+◌, ◌<◌, ◌≤◌, Bool, true, false, nat_eq, List, length, slice_get, Option, Some, None, ◌∙◌, refl, sym, ap, subst, arith}
use Rattle.std.proofs.lemmas.Bool.Decides.{nat_tests}
use Rattle.std.proofs.lemmas.Option.{slice_get_past}
use Rattle.std.specs.Bool.{nat_lt}

module _ {X : Type 0} (P : X → Type 0) (xs : List X) where
  pub record OneBefore (i : ℕ) : Type 0 where
    pub at : ℕ
    pub before : at < i
    pub item : X
    pub is : slice_get xs at ≡ Some item
    pub holds : P item

  abbrev pub NoneBefore : ℕ → Type 0
  NoneBefore i = (k : ℕ) (x : X) → k < i → slice_get xs k ≡ Some x → P x → ⊥

  abbrev pub NotTwoBefore : ℕ → Type 0
  NotTwoBefore i = (one other : ℕ) (first second : X) → one < other → other < i → slice_get xs one ≡ Some first → slice_get xs other ≡ Some second → P first → P second → ⊥

  same_item : (x y : X) → Some x ≡ Some y → x ≡ y
  same_item x y e = cc

  pub within : (k : ℕ) (x : X) → slice_get xs k ≡ Some x → k < length xs
  within k x is = by (nat_lt k (length xs)) refl
    where
      by : (b : Bool) → nat_lt k (length xs) ≡ b → k < length xs
      by true e = grind (arith, nat_tests)
      by false e =
          let past : length xs ≤ k = grind (arith, nat_tests) in
          let none : slice_get xs k ≡ None = slice_get_past xs k past in
          absurd cc

  module _ (i : ℕ) (x : X) (there : slice_get xs i ≡ Some x) where
    pub one_here : P x → OneBefore (i + 1)
    one_here p = record { at = i; before = omega arith; item = x; is = there; holds = p }

    pub one_stays : OneBefore i → OneBefore (i + 1)
    one_stays o = record { at = o.at; before = omega (arith, o.before); item = o.item; is = o.is; holds = o.holds }

    pub none_more : NoneBefore i → (P x → ⊥) → NoneBefore (i + 1)
    none_more none other k y lt is p = by (nat_eq k i) refl
      where
        by : (b : Bool) → nat_eq k i ≡ b → ⊥
        by true e =
            let same : k ≡ i = grind (arith, nat_tests) in
            other (subst P (same_item y x (sym is ∙ ap (slice_get xs) same ∙ there)) p)
        by false e = let below : k < i = grind (arith, nat_tests) in none k y below is p

    pub not_two_first : NoneBefore i → NotTwoBefore (i + 1)
    not_two_first none one other first second two lt is-first is-second p q = none one first (omega (arith, two, lt)) is-first p

    pub not_two_unless : NotTwoBefore i → (P x → ⊥) → NotTwoBefore (i + 1)
    not_two_unless not_two refused one other first second two lt is-first is-second p q = by (nat_eq other i) refl
      where
        by : (b : Bool) → nat_eq other i ≡ b → ⊥
        by true e =
            let same : other ≡ i = grind (arith, nat_tests) in
            refused (subst P (same_item second x (sym is-second ∙ ap (slice_get xs) same ∙ there)) q)
        by false e = let below : other < i = grind (arith, nat_tests) in not_two one other first second two below is-first is-second p q
