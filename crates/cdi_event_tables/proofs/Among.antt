-- What stands in a list.
use Rattle.std.proofs.Common.{zero, suc, ◌≡◌, ◌∙◌, ◌⊎◌, inl, inr, Bool, true, false, cond, List, [], ◌∷◌, filter, refl, sym, ap, arith}
use Rattle.std.proofs.lemmas.Bool.{true≢false}
use Rattle.std.specs.List.{Contains}

abbrev pub Among : {X : Type 0} → X → List X → Type 0
Among x [] = ⊥
Among x (y ∷ ys) = (x ≡ y) ⊎ Among x ys

module _ {X : Type 0} where
  pub among_filter : (p : X → Bool) (xs : List X) (x : X) → Among x xs → p x ≡ true → Among x (filter p xs)
  among_filter p [] x a e = absurd a
  among_filter p (y ∷ ys) x (inl same) e = by (p y) (sym (ap p same) ∙ e)
    where
      by : (b : Bool) → b ≡ true → Among x (cond b (y ∷ filter p ys) (filter p ys))
      by true t = inl same
      by false t = absurd (true≢false (sym t))
  among_filter p (y ∷ ys) x (inr a) e = by (p y) (among_filter p ys x a e)
    where
      by : (b : Bool) → Among x (filter p ys) → Among x (cond b (y ∷ filter p ys) (filter p ys))
      by true t = inr t
      by false t = t

  pub of_filter : (p : X → Bool) (xs : List X) (x : X) → Among x (filter p xs) → Among x xs × (p x ≡ true)
  of_filter p [] x a = absurd a
  of_filter p (y ∷ ys) x a = by (p y) refl a (of_filter p ys x)
    where
      by : (b : Bool) → p y ≡ b → Among x (cond b (y ∷ filter p ys) (filter p ys)) → (Among x (filter p ys) → Among x ys × (p x ≡ true)) → Among x (y ∷ ys) × (p x ≡ true)
      by true h (inl same) more = (inl same, ap p same ∙ h)
      by true h (inr t) more = let found = more t in (inr found.0, found.1)
      by false h t more = let found = more t in (inr found.0, found.1)

  pub among_contains : (xs : List X) (x : X) → Among x xs → Contains xs x
  among_contains [] x a = absurd a
  among_contains (y ∷ ys) x (inl same) = (zero, omega arith, sym same)
  among_contains (y ∷ ys) x (inr a) = by (among_contains ys x a)
    where
      by : Contains ys x → Contains (y ∷ ys) x
      by (k, lt, is) = (suc k, omega arith, is)

  pub contains_among : (xs : List X) (x : X) → Contains xs x → Among x xs
  contains_among [] x (k, lt, is) = absurd (omega arith)
  contains_among (y ∷ ys) x (zero, lt, is) = inl (sym is)
  contains_among (y ∷ ys) x (suc k, lt, is) = inr (contains_among ys x (k, omega arith, is))
