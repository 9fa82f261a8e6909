-- Tests of the items of lists.
use Rattle.std.proofs.Common.{◌≡◌, ◌∙◌, ◌||◌, ◌+◌, ◌<◌, ◌≤◌, inl, inr, ℕ, Bool, true, false, nat_eq, List, [], ◌∷◌, ◌++◌, get_or, length, take, refl, sym, ap, subst, arith}
use Rattle.std.proofs.lemmas.List.{take_all, take_more}
use Rattle.std.proofs.lemmas.Bool.Decides.{Decides-eqb}
use Rattle.std.proofs.lemmas.List.Elements.{Contains-append_right, Contains-push_cases}
use Rattle.std.proofs.lemmas.List.Folds.{list_any_at}
use Rattle.std.specs.List.{Contains, list_any}

pub equal_names : (a b : ℕ) → nat_eq a b ≡ true → a ≡ b
equal_names a b e = (Decides-eqb a b).0 e

pub same_name : (n : ℕ) → nat_eq n n ≡ true
same_name n = (Decides-eqb n n).1 refl

-- where a test holds of an item only if another one does, and that one holds of none
pub none_implied : {X : Type 0} (p r : X → Bool) (xs : List X) → ((x : X) → Contains xs x → p x ≡ true → r x ≡ true) → list_any r xs ≡ false → list_any p xs ≡ false
none_implied p r [] implies e = refl
none_implied {X} p r (x ∷ xs) implies e =
    by (p x) (r x) (implies x (0, omega arith, refl)) (none_implied p r xs (λ y h. implies y (Contains-append_right (x ∷ []) xs y h))) e
  where
    by : (b c : Bool) → (b ≡ true → c ≡ true) → (list_any r xs ≡ false → list_any p xs ≡ false) → (c || list_any r xs) ≡ false → (b || list_any p xs) ≡ false
    by true true first later e = absurd cc
    by true false first later e = let holds = first refl in absurd cc
    by false true first later e = absurd cc
    by false false first later e = later e

pub contained : {X : Type 0} (p : X → Bool) (xs : List X) (x : X) → Contains xs x → p x ≡ true → list_any p xs ≡ true
contained p xs x h holds = list_any_at p xs h.0 x h.1 (ap p h.2 ∙ holds)

-- an item for which a test holds
pub any_of : {X : Type 0} (p : X → Bool) (xs : List X) → list_any p xs ≡ true → (x : X) × Contains xs x × (p x ≡ true)
any_of p [] e = absurd cc
any_of {X} p (x ∷ xs) e = by (p x) refl e (any_of p xs)
  where
    by : (b : Bool) → p x ≡ b → (b || list_any p xs) ≡ true → (list_any p xs ≡ true → (y : X) × Contains xs y × (p y ≡ true)) → (y : X) × Contains (x ∷ xs) y × (p y ≡ true)
    by true here e later = (x, (0, omega arith, refl), here)
    by false here e later = let there = later e in (there.0, Contains-append_right (x ∷ []) xs there.0 there.1, there.2)

module _ {X : Type 0} (P : X → Type 0) (xs : List X) (i : ℕ) where
  -- what holds of the first items, and of the next one
  pub one_more : (x : X) → i < length xs → x ≡ get_or xs i x → ((y : X) → Contains (take i xs) y → P y) → P x → (y : X) → Contains (take (i + 1) xs) y → P y
  one_more x lt is before here y h =
      let longer : take (i + 1) xs ≡ take i xs ++ x ∷ [] = take_more xs i x lt ∙ ap (λ z. take i xs ++ z ∷ []) (sym is) in
      let Q : List X → Type 0 = λ ys. Contains ys y in
      elim (Contains-push_cases (take i xs) x y (subst Q longer h)) [
        | inl there ↦ before y there
        | inr same ↦ subst P same here
      ]

  pub all_of_them : length xs ≤ i → ((y : X) → Contains (take i xs) y → P y) → (y : X) → Contains xs y → P y
  all_of_them end each y h = let Q : List X → Type 0 = λ ys. Contains ys y in each y (subst Q (sym (take_all i xs end)) h)
