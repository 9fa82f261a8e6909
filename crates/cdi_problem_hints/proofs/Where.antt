-- The ones for which a test holds.
use Rattle.std.proofs.Common.{◌≡◌, ◌∙◌, ℕ, ◌+◌, ◌<◌, Bool, true, false, cond, List, [], ◌∷◌, ◌++◌, filter, get_or, length, map, take, refl, sym, ap, append-nil}
use Rattle.std.proofs.lemmas.List.{map-append, take_more}
use Rattle.std.proofs.lemmas.List.Elements.{filter-append}
use Rattle.std.specs.List.{flat_map}

module _ {X A : Type 0} (test : X → Bool) (f : X → List A) where
  first : (here : Bool) (x : X) (kept : List X) → flat_map f (cond here (x ∷ kept) kept) ≡ cond here (f x) [] ++ flat_map f kept
  first true x kept = refl
  first false x kept = refl

  pub told_where : (xs : List X) → flat_map f (filter test xs) ≡ flat_map (λ x. cond (test x) (f x) []) xs
  told_where [] = refl
  told_where (x ∷ xs) = first (test x) x (filter test xs) ∙ ap (λ t. cond (test x) (f x) [] ++ t) (told_where xs)

pub none : {X : Type 0} (xs : List X) → filter (λ x. false) xs ≡ []
none [] = refl
none (x ∷ xs) = none xs

module _ {X P : Type 0} (test : X → Bool) (f : X → P) where
  one_more : (xs : List X) (i : ℕ) (x : X) → i < length xs → x ≡ get_or xs i x → (here : Bool) → test x ≡ here → map f (filter test (take (i + 1) xs)) ≡ map f (filter test (take i xs)) ++ map f (cond here (x ∷ []) [])
  one_more xs i x lt is here t =
      ap (λ ys. map f (filter test ys)) (take_more xs i x lt ∙ ap (λ y. take i xs ++ y ∷ []) (sym is))
      ∙ ap (map f) (filter-append test (take i xs) (x ∷ []))
      ∙ map-append f (filter test (take i xs)) (filter test (x ∷ []))
      ∙ ap (λ b. map f (filter test (take i xs)) ++ map f (cond b (x ∷ []) [])) t

  pub kept_more : (xs : List X) (i : ℕ) (x : X) → i < length xs → x ≡ get_or xs i x → test x ≡ true → (old : List P) → old ≡ map f (filter test (take i xs)) → old ++ f x ∷ [] ≡ map f (filter test (take (i + 1) xs))
  kept_more xs i x lt is t old so = ap (λ ys. ys ++ f x ∷ []) so ∙ sym (one_more xs i x lt is true t)

  pub passed_over : (xs : List X) (i : ℕ) (x : X) → i < length xs → x ≡ get_or xs i x → test x ≡ false → (old : List P) → old ≡ map f (filter test (take i xs)) → old ≡ map f (filter test (take (i + 1) xs))
  passed_over xs i x lt is t old so = so ∙ sym (one_more xs i x lt is false t ∙ append-nil (map f (filter test (take i xs))))
