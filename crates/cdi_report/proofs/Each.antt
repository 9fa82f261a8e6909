-- What holds of each item of a list, and so of what is made from the list.
use Rattle.std.proofs.Common.{◌≡◌, Bool, true, false, cond, List, [], ◌∷◌, ◌++◌, Option, Some, None, refl, subst}
use Rattle.std.proofs.lemmas.Bool.{and_from, and_parts}
use Rattle.std.proofs.lemmas.Option.{same_Some}
use Rattle.std.specs.List.{AllByRecursion, AllZip, cons_option, filter_map, find, flat_map, list_all}

module _ {X : Type 0} (P : X → Type 0) where
  pub each_append : (xs ys : List X) → AllByRecursion P xs → AllByRecursion P ys
      → AllByRecursion P (xs ++ ys)
  each_append [] ys a b = b
  each_append (x ∷ xs) ys a b = (a.0, each_append xs ys a.1 b)

  -- it holds of the item that is found
  pub of_found : (p : X → Bool) (xs : List X) (x : X) → AllByRecursion P xs → find p xs ≡ Some x
      → P x
  of_found p [] x a e = absurd cc
  of_found p (y ∷ ys) x a e = by (p y) e (of_found p ys x a.1)
    where
      by : (b : Bool) → cond b (Some y) (find p ys) ≡ Some x → (find p ys ≡ Some x → P x) → P x
      by true is more = subst P (same_Some y x is) a.0
      by false is more = more is

  -- it holds of each item that is given, if it holds of all that can be
  pub each_given : {Y : Type 0} (h : Y → Option X) (ys : List Y)
      → ((y : Y) (x : X) → h y ≡ Some x → P x)
      → AllByRecursion P (filter_map h ys)
  each_given h [] gives = tt
  each_given h (y ∷ ys) gives = by (h y) refl (each_given h ys gives)
    where
      by : (o : Option X) → h y ≡ o → AllByRecursion P (filter_map h ys)
          → AllByRecursion P (cons_option o (filter_map h ys))
      by None e more = more
      by (Some x) e more = (gives y x e, more)

  pub each_part : {Y : Type 0} (Q : Y → Type 0) (f : Y → List X) (ys : List Y)
      → ((y : Y) → Q y → AllByRecursion P (f y)) → AllByRecursion Q ys
      → AllByRecursion P (flat_map f ys)
  each_part Q f [] parts a = tt
  each_part Q f (y ∷ ys) parts a =
      each_append (f y) (flat_map f ys) (parts y a.0) (each_part Q f ys parts a.1)

  -- from each item to the one at its place in another list
  pub each_zipped : {Y : Type 0} (R : X → Y → Type 0) (Q : Y → Type 0)
      → ((x : X) (y : Y) → P x → R x y → Q y) → (xs : List X) (ys : List Y)
      → AllByRecursion P xs
      → AllZip R xs ys → AllByRecursion Q ys
  each_zipped R Q so [] [] a z = tt
  each_zipped R Q so [] (y ∷ ys) a z = absurd z
  each_zipped R Q so (x ∷ xs) [] a z = absurd z
  each_zipped R Q so (x ∷ xs) (y ∷ ys) a z =
      (so x y a.0 z.0, each_zipped R Q so xs ys a.1 z.1)

  -- each item of which it holds passes, so all pass
  pub all_pass : (p : X → Bool) (xs : List X) → ((x : X) → P x → p x ≡ true)
      → AllByRecursion P xs
      → list_all p xs ≡ true
  all_pass p [] passes a = refl
  all_pass p (x ∷ xs) passes a =
      and_from (p x) (list_all p xs) (passes x a.0) (all_pass p xs passes a.1)

pub each_passes : {X : Type 0} (p : X → Bool) (xs : List X) → list_all p xs ≡ true
    → AllByRecursion (λ x. p x ≡ true) xs
each_passes p [] e = tt
each_passes p (x ∷ xs) e =
    let parts = and_parts (p x) (list_all p xs) e in (parts.0, each_passes p xs parts.1)

-- what holds of everything
pub each_item : {X : Type 0} (P : X → Type 0) → ((x : X) → P x) → (xs : List X)
    → AllByRecursion P xs
each_item P all [] = tt
each_item P all (x ∷ xs) = (all x, each_item P all xs)

-- what follows of each item
pub each_so : {X : Type 0} (P Q : X → Type 0) → ((x : X) → P x → Q x) → (xs : List X)
    → AllByRecursion P xs → AllByRecursion Q xs
each_so P Q so [] all = tt
each_so P Q so (x ∷ xs) all = (so x all.0, each_so P Q so xs all.1)
