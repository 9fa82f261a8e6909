-- Whether an instance is in use, as loops find it.
use Rattle.std.proofs.Common.{ℕ, suc, ◌≡◌, ◌<◌, ◌∙◌, List, [], ◌∷◌, ◌++◌, length, reverse, take, drop, get_or, refl, sym, ap, append_assoc, Bool, true, false, Option, Some, None}
use Rattle.std.specs.Prelude.{◌||◌, nat_eq}
use Rattle.std.proofs.Math.Seq.{drop-cons}
use Rattle.std.proofs.lemmas.List.{reverse-append, take-append-drop}
use Rattle.std.proofs.lemmas.Grind.{reverse_onto}
use Rattle.cdi_machine.specs.World.{World, Invocation, instance_at}
use Rattle.cdi_machine.specs.DestroyAct.{any_belongs, any_target, belongs, dependent_of}

or_true : (b : Bool) → (b || true) ≡ true
or_true true = refl
or_true false = refl

-- ---- one of a list, seen from its end

module _ {X : Type 0} (p : X → Bool) where
  abbrev pub any_of : List X → Bool
  any_of [] = false
  any_of (x ∷ xs) = p x || any_of xs

  hit : (ys zs : List X) (x : X) → p x ≡ true → any_of (ys ++ x ∷ zs) ≡ true
  hit [] zs x e = rw e refl
  hit (y ∷ ys) zs x e = rw (hit ys zs x e) (or_true (p y))

  from_end : (xs : List X) (i : ℕ) (x : X) → i < length xs → x ≡ get_or xs i x
      → reverse xs ≡ reverse (drop (suc i) xs) ++ x ∷ reverse (take i xs)
  from_end xs i x h is =
      ap reverse (sym (take-append-drop i xs) ∙ ap (λ z. take i xs ++ z) (drop-cons xs i x h) ∙ ap (λ y. take i xs ++ y ∷ drop (suc i) xs) (sym is))
      ∙ reverse-append (take i xs) (x ∷ drop (suc i) xs)
      ∙ ap (λ z. z ++ reverse (take i xs)) (reverse_onto (drop (suc i) xs) x [])
      ∙ append_assoc (reverse (drop (suc i) xs)) (x ∷ []) (reverse (take i xs))

  found : (xs : List X) (i : ℕ) (x : X) → i < length xs → x ≡ get_or xs i x → p x ≡ true → any_of (reverse xs) ≡ true
  found xs i x h is e = ap any_of (from_end xs i x h is) ∙ hit (reverse (drop (suc i) xs)) (reverse (take i xs)) x e

-- ---- targets, and instances with a running body

module _ (w : World) (n : ℕ) where
  abbrev is_within : Invocation → Bool
  is_within v = belongs v.target w v.target n

  abbrev is_in : ℕ → Bool
  is_in m = belongs m w m n

  any_is : (vs : List Invocation) → any_target w vs n ≡ any_of is_within vs
  any_is [] = refl
  any_is (v ∷ vs) = ap (λ b. is_within v || b) (any_is vs)

  any_in : (ms : List ℕ) → any_belongs w ms n ≡ any_of is_in ms
  any_in [] = refl
  any_in (m ∷ ms) = ap (λ b. is_in m || b) (any_in ms)

  pub target_found : (vs : List Invocation) (i : ℕ) (v : Invocation) → i < length vs → v ≡ get_or vs i v
      → belongs v.target w v.target n ≡ true → any_target w (reverse vs) n ≡ true
  target_found vs i v h is e = any_is (reverse vs) ∙ found is_within vs i v h is e

  pub body_found : (ms : List ℕ) (i m : ℕ) → i < length ms → m ≡ get_or ms i m
      → belongs m w m n ≡ true → any_belongs w (reverse ms) n ≡ true
  body_found ms i m h is e = any_in (reverse ms) ∙ found is_in ms i m h is e

  -- ---- up the owners

  abbrev above : ℕ → ℕ → Option ℕ → Bool
  above k m x = nat_eq m n || elim x [ None ↦ false | Some o ↦ belongs k w o n ]

  pub belongs_up : (k m o : ℕ) → nat_eq m n ≡ false → dependent_of (instance_at w m) ≡ Some o → belongs (suc k) w m n ≡ belongs k w o n
  belongs_up k m o e h = ap (above k m) h ∙ rw e refl
