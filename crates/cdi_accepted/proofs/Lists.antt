-- What stands in a list.
use Rattle.std.proofs.Common.{ℕ, zero, suc, ◌≡◌, ◌∙◌, ◌+◌, ◌||◌, ◌⊎◌, inl, inr, Bool, true, false, cond, List, [], ◌∷◌, ◌++◌, map, filter, Option, Some, None, refl, sym, ap, subst, arith}
use Rattle.std.proofs.lemmas.Bool.{true≢false, and_parts}
use Rattle.std.proofs.lemmas.List.Elements.{All-head, All-tail}
use Rattle.std.proofs.lemmas.Option.{same_Some}
use Rattle.std.specs.List.{All, Contains, cons_option, enumerate_from, filter_map, find, flat_map, list_all, list_any, slice_get}
pub use Rattle.cdi_event_tables.proofs.Among.{Among, among_contains, among_filter, contains_among, of_filter}
use Rattle.cdi_ledger.specs.Whose.{IsIn}
use Rattle.cdi_types.specs.ListsThose.{ListsThose}

pub of_is_in : {X : Type 0} (x : X) (xs : List X) → IsIn x xs → Among x xs
of_is_in x [] a = a
of_is_in x (y ∷ ys) (inl same) = inl (sym same)
of_is_in x (y ∷ ys) (inr a) = inr (of_is_in x ys a)

pub neither : (a b : Bool) → (a || b) ≡ false → (a ≡ false) × (b ≡ false)
neither true b e = absurd (true≢false e)
neither false b e = (refl, e)

module _ {X : Type 0} where
  -- one of them passes a test
  pub record Passing (p : X → Bool) (xs : List X) : Type 0 where
    pub item : X
    pub stands : Among item xs
    pub passes : p item ≡ true

  pub passing : (p : X → Bool) (xs : List X) → list_any p xs ≡ true → Passing p xs
  passing p [] e = absurd (true≢false (sym e))
  passing p (x ∷ xs) e = by (p x) refl e (passing p xs)
    where
      by : (b : Bool) → p x ≡ b → (b || list_any p xs) ≡ true → (list_any p xs ≡ true → Passing p xs) → Passing p (x ∷ xs)
      by true h t more = record { item = x; stands = inl refl; passes = h }
      by false h t more = let found = more t in record { item = found.item; stands = inr found.stands; passes = found.passes }

  pub any_passes : (p : X → Bool) (xs : List X) (x : X) → Among x xs → p x ≡ true → list_any p xs ≡ true
  any_passes p [] x a e = absurd a
  any_passes p (y ∷ ys) x (inl same) e = ap (λ b. b || list_any p ys) (sym (ap p same) ∙ e)
  any_passes p (y ∷ ys) x (inr a) e = by (p y) (any_passes p ys x a e)
    where
      by : (b : Bool) → list_any p ys ≡ true → (b || list_any p ys) ≡ true
      by true t = refl
      by false t = t

  pub none_passes : (p : X → Bool) (xs : List X) (x : X) → list_any p xs ≡ false → Among x xs → p x ≡ false
  none_passes p [] x e a = absurd a
  none_passes p (y ∷ ys) x e (inl same) = ap p same ∙ (neither (p y) (list_any p ys) e).0
  none_passes p (y ∷ ys) x e (inr a) = none_passes p ys x (neither (p y) (list_any p ys) e).1 a

  pub all_pass : (p : X → Bool) (xs : List X) (x : X) → list_all p xs ≡ true → Among x xs → p x ≡ true
  all_pass p [] x e a = absurd a
  all_pass p (y ∷ ys) x e (inl same) = ap p same ∙ (and_parts (p y) (list_all p ys) e).0
  all_pass p (y ∷ ys) x e (inr a) = all_pass p ys x (and_parts (p y) (list_all p ys) e).1 a

  pub among_left : (xs ys : List X) (x : X) → Among x xs → Among x (xs ++ ys)
  among_left [] ys x a = absurd a
  among_left (z ∷ xs) ys x (inl same) = inl same
  among_left (z ∷ xs) ys x (inr a) = inr (among_left xs ys x a)

  pub among_right : (xs ys : List X) (x : X) → Among x ys → Among x (xs ++ ys)
  among_right [] ys x a = a
  among_right (z ∷ xs) ys x a = inr (among_right xs ys x a)

  pub among_parts : (xs ys : List X) (x : X) → Among x (xs ++ ys) → Among x xs ⊎ Among x ys
  among_parts [] ys x a = inr a
  among_parts (z ∷ xs) ys x (inl same) = inl (inl same)
  among_parts (z ∷ xs) ys x (inr a) = by (among_parts xs ys x a)
    where
      by : Among x xs ⊎ Among x ys → Among x (z ∷ xs) ⊎ Among x ys
      by (inl b) = inl (inr b)
      by (inr b) = inr b

  pub found_among : (p : X → Bool) (xs : List X) (x : X) → find p xs ≡ Some x → Among x xs × (p x ≡ true)
  found_among p [] x e = absurd cc
  found_among p (y ∷ ys) x e = by (p y) refl e (found_among p ys x)
    where
      by : (b : Bool) → p y ≡ b → cond b (Some y) (find p ys) ≡ Some x → (find p ys ≡ Some x → Among x ys × (p x ≡ true)) → Among x (y ∷ ys) × (p x ≡ true)
      by true h t more = let same : x ≡ y = sym (same_Some y x t) in (inl same, ap p same ∙ h)
      by false h t more = let found = more t in (inr found.0, found.1)

  pub holds_among : (P : X → Type 0) (xs : List X) (x : X) → All P xs → Among x xs → P x
  holds_among P [] x all a = absurd a
  holds_among P (y ∷ ys) x all (inl same) = subst P (sym same) (All-head P y ys all)
  holds_among P (y ∷ ys) x all (inr a) = holds_among P ys x (All-tail P y ys all) a

  pub at_among : (xs : List X) (i : ℕ) (x : X) → slice_get xs i ≡ Some x → Among x xs
  at_among [] i x e = absurd cc
  at_among (y ∷ ys) zero x e = inl (sym (same_Some y x e))
  at_among (y ∷ ys) (suc i) x e = inr (at_among ys i x e)

  -- an item stands with its place among items with their places
  pub record Placed (n : ℕ) (xs : List X) (x : X) : Type 0 where
    pub place : ℕ
    pub stands : Among (place, x) (enumerate_from n xs)

  pub placed : (n : ℕ) (xs : List X) (x : X) → Among x xs → Placed n xs x
  placed n [] x a = absurd a
  placed n (y ∷ ys) x (inl same) = record { place = n; stands = inl (ap (λ z. (n, z)) same) }
  placed n (y ∷ ys) x (inr a) = let more = placed (n + 1) ys x a in record { place = more.place; stands = inr more.stands }

  pub none_listed : (P : X → Type 0) (xs : List X) (x : X) → ListsThose P xs [] → Among x xs → P x → ⊥
  none_listed P [] x listed a p = a
  none_listed P (y ∷ ys) x (ListsThose.skip not rest) (inl same) p = not (subst P same p)
  none_listed P (y ∷ ys) x (ListsThose.skip not rest) (inr a) p = none_listed P ys x rest a p

module _ {X Y : Type 0} where
  pub among_map : (f : X → Y) (xs : List X) (x : X) → Among x xs → Among (f x) (map f xs)
  among_map f [] x a = absurd a
  among_map f (y ∷ ys) x (inl same) = inl (ap f same)
  among_map f (y ∷ ys) x (inr a) = inr (among_map f ys x a)

  -- an item whose image this is
  pub record Mapped (f : X → Y) (xs : List X) (y : Y) : Type 0 where
    pub item : X
    pub stands : Among item xs
    pub is : y ≡ f item

  pub mapped : (f : X → Y) (xs : List X) (y : Y) → Among y (map f xs) → Mapped f xs y
  mapped f [] y a = absurd a
  mapped f (x ∷ xs) y (inl same) = record { item = x; stands = inl refl; is = same }
  mapped f (x ∷ xs) y (inr a) = let found = mapped f xs y a in record { item = found.item; stands = inr found.stands; is = found.is }

  pub among_filter_map : (f : X → Option Y) (xs : List X) (x : X) (y : Y) → Among x xs → f x ≡ Some y → Among y (filter_map f xs)
  among_filter_map f [] x y a e = absurd a
  among_filter_map f (z ∷ zs) x y (inl same) e = by (f z) (sym (ap f same) ∙ e)
    where
      by : (o : Option Y) → o ≡ Some y → Among y (cons_option o (filter_map f zs))
      by None t = absurd cc
      by (Some w) t = inl (sym (same_Some w y t))
  among_filter_map f (z ∷ zs) x y (inr a) e = by (f z) (among_filter_map f zs x y a e)
    where
      by : (o : Option Y) → Among y (filter_map f zs) → Among y (cons_option o (filter_map f zs))
      by None t = t
      by (Some w) t = inr t

  -- an item that gives this
  pub record Given (f : X → Option Y) (xs : List X) (y : Y) : Type 0 where
    pub item : X
    pub stands : Among item xs
    pub is : f item ≡ Some y

  pub given : (f : X → Option Y) (xs : List X) (y : Y) → Among y (filter_map f xs) → Given f xs y
  given f [] y a = absurd a
  given f (x ∷ xs) y a = by (f x) refl a (given f xs y)
    where
      by : (o : Option Y) → f x ≡ o → Among y (cons_option o (filter_map f xs)) → (Among y (filter_map f xs) → Given f xs y) → Given f (x ∷ xs) y
      by None h t more = let found = more t in record { item = found.item; stands = inr found.stands; is = found.is }
      by (Some w) h (inl same) more = record { item = x; stands = inl refl; is = h ∙ ap (λ v. Some v) (sym same) }
      by (Some w) h (inr t) more = let found = more t in record { item = found.item; stands = inr found.stands; is = found.is }

  pub among_flat_map : (f : X → List Y) (xs : List X) (x : X) (y : Y) → Among x xs → Among y (f x) → Among y (flat_map f xs)
  among_flat_map f [] x y a b = absurd a
  among_flat_map f (z ∷ zs) x y (inl same) b = among_left (f z) (flat_map f zs) y (subst (λ w. Among y (f w)) same b)
  among_flat_map f (z ∷ zs) x y (inr a) b = among_right (f z) (flat_map f zs) y (among_flat_map f zs x y a b)

  -- an item whose part this is
  pub record PartOf (f : X → List Y) (xs : List X) (y : Y) : Type 0 where
    pub item : X
    pub stands : Among item xs
    pub part : Among y (f item)

  pub part_of : (f : X → List Y) (xs : List X) (y : Y) → Among y (flat_map f xs) → PartOf f xs y
  part_of f [] y a = absurd a
  part_of f (x ∷ xs) y a = by (part_of f xs y) (among_parts (f x) (flat_map f xs) y a)
    where
      by : (Among y (flat_map f xs) → PartOf f xs y) → Among y (f x) ⊎ Among y (flat_map f xs) → PartOf f (x ∷ xs) y
      by more (inl b) = record { item = x; stands = inl refl; part = b }
      by more (inr b) = let found = more b in record { item = found.item; stands = inr found.stands; part = found.part }
