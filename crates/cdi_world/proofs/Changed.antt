-- What is changed and taken out by its name.
use Rattle.std.proofs.Common.{◌≡◌, ◌∙◌, ℕ, ◌==◌, List, [], ◌∷◌, cond, not, Bool, true, false, Some, None, option_map, bytes_eq, refl, ap, sym}
use Rattle.cdi_contexts.specs.Named.{named, changed, without_name}
use Rattle.cdi_contexts.specs.Standing.{in_slot}
use Rattle.cdi_contexts.proofs.Slots.{same_bytes}

module _ {X : Type 0} (name_of : X → List ℕ) (name : List ℕ) where
  pub own_name : (xs : List X) (x : X) → named name_of xs name ≡ Some x → name_of x ≡ name
  own_name [] x h = absurd cc
  own_name (y ∷ more) x h = by (bytes_eq (name_of y) name) refl h (own_name more x)
    where
      by : (b : Bool) → bytes_eq (name_of y) name ≡ b
          → cond b (Some y) (named name_of more name) ≡ Some x
          → (named name_of more name ≡ Some x → name_of x ≡ name) → name_of x ≡ name
      by true e i rest = let same : y ≡ x = cc in ap name_of (sym same) ∙ same_bytes (name_of y) name e
      by false e i rest = rest i

  -- ---- where it isn't there

  pub changed_absent : (f : X → X) (xs : List X) → named name_of xs name ≡ None
      → changed name_of name f xs ≡ xs
  changed_absent f [] h = refl
  changed_absent f (y ∷ more) h = by (bytes_eq (name_of y) name) h (changed_absent f more)
    where
      by : (b : Bool) → cond b (Some y) (named name_of more name) ≡ None
          → (named name_of more name ≡ None → changed name_of name f more ≡ more)
          → cond b (f y ∷ more) (y ∷ changed name_of name f more) ≡ y ∷ more
      by true i rest = absurd cc
      by false i rest = ap (λ r. y ∷ r) (rest i)

  pub without_absent : (xs : List X) → named name_of xs name ≡ None
      → without_name name_of name xs ≡ xs
  without_absent [] h = refl
  without_absent (y ∷ more) h = by (bytes_eq (name_of y) name) h (without_absent more)
    where
      by : (b : Bool) → cond b (Some y) (named name_of more name) ≡ None
          → (named name_of more name ≡ None → without_name name_of name more ≡ more)
          → cond (not b) (y ∷ without_name name_of name more) (without_name name_of name more)
          ≡ y ∷ more
      by true i rest = absurd cc
      by false i rest = ap (λ r. y ∷ r) (rest i)

  -- ---- where it is there

  pub changed_same : (f : X → X) (xs : List X) (x : X) → named name_of xs name ≡ Some x → f x ≡ x
      → changed name_of name f xs ≡ xs
  changed_same f [] x h e = refl
  changed_same f (y ∷ more) x h e = by (bytes_eq (name_of y) name) h (changed_same f more x)
    where
      by : (b : Bool) → cond b (Some y) (named name_of more name) ≡ Some x
          → (named name_of more name ≡ Some x → f x ≡ x → changed name_of name f more ≡ more)
          → cond b (f y ∷ more) (y ∷ changed name_of name f more) ≡ y ∷ more
      by true i rest =
          let same : y ≡ x = cc in
          ap (λ z. z ∷ more) (ap f same ∙ e ∙ sym same)
      by false i rest = ap (λ r. y ∷ r) (rest i e)

  module _ (f : X → X) (keeps : (x : X) → name_of (f x) ≡ name_of x) where
    -- one change that another takes back
    pub changed_back : (g : X → X) (xs : List X) (x : X) → named name_of xs name ≡ Some x
        → g (f x) ≡ x → changed name_of name g (changed name_of name f xs) ≡ xs
    changed_back g [] x h e = refl
    changed_back g (y ∷ more) x h e = by (bytes_eq (name_of y) name) refl h (changed_back g more x)
      where
        by : (b : Bool) → bytes_eq (name_of y) name ≡ b
            → cond b (Some y) (named name_of more name) ≡ Some x
            → (named name_of more name ≡ Some x → g (f x) ≡ x
            → changed name_of name g (changed name_of name f more) ≡ more)
            → changed name_of name g (cond b (f y ∷ more) (y ∷ changed name_of name f more))
            ≡ y ∷ more
        by true is i rest =
            let same : y ≡ x = cc in
            rw (keeps y, is) (ap (λ z. z ∷ more) (ap (λ z. g (f z)) same ∙ e ∙ sym same))
        by false is i rest = rw is (ap (λ r. y ∷ r) (rest i e))

    pub named_changed : (xs : List X) → named name_of (changed name_of name f xs) name
        ≡ option_map f (named name_of xs name)
    named_changed [] = refl
    named_changed (y ∷ more) = by (bytes_eq (name_of y) name) refl (named_changed more)
      where
        by : (b : Bool) → bytes_eq (name_of y) name ≡ b
            → named name_of (changed name_of name f more) name
            ≡ option_map f (named name_of more name)
            → named name_of (cond b (f y ∷ more) (y ∷ changed name_of name f more)) name
            ≡ option_map f (cond b (Some y) (named name_of more name))
        by true is rest = rw (keeps y, is) refl
        by false is rest = rw is rest

    pub without_changed : (xs : List X) → without_name name_of name (changed name_of name f xs)
        ≡ without_name name_of name xs
    without_changed [] = refl
    without_changed (y ∷ more) = by (bytes_eq (name_of y) name) refl (without_changed more)
      where
        by : (b : Bool) → bytes_eq (name_of y) name ≡ b
            → without_name name_of name (changed name_of name f more)
            ≡ without_name name_of name more
            → without_name name_of name (cond b (f y ∷ more) (y ∷ changed name_of name f more))
            ≡ cond (not b) (y ∷ without_name name_of name more) (without_name name_of name more)
        by true is rest = rw (keeps y, is) refl
        by false is rest = rw is (ap (λ r. y ∷ r) rest)

    -- what is in a slot keeps its name
    pub slot_changed : (slots : List ℕ) (xs : List X) (slot : ℕ)
        → option_map name_of (in_slot slots (changed name_of name f xs) slot)
        ≡ option_map name_of (in_slot slots xs slot)
    slot_changed [] xs slot = refl
    slot_changed (s ∷ slots) [] slot = refl
    slot_changed (s ∷ slots) (y ∷ more) slot =
        by (bytes_eq (name_of y) name) (slot == s) refl (slot_changed slots more slot)
      where
        by : (b t : Bool) → (slot == s) ≡ t
            → option_map name_of (in_slot slots (changed name_of name f more) slot)
            ≡ option_map name_of (in_slot slots more slot)
            → option_map name_of (in_slot (s ∷ slots) (cond b (f y ∷ more) (y ∷ changed name_of name f more)) slot)
            ≡ option_map name_of (cond t (Some y) (in_slot slots more slot))
        by true true is rest = rw is (ap (λ n. Some n) (keeps y))
        by true false is rest = rw is refl
        by false true is rest = rw is refl
        by false false is rest = rw is rest
