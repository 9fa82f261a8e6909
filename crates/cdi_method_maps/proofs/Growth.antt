-- Names and methods that come: those that were there keep their keys and places.
use Rattle.std.proofs.Common.{◌≡◌, ◌∙◌, ℕ, suc, zero, ◌+◌, ◌<◌, ◌≤◌, Bool, true, false, cond, not, List, [], ◌∷◌, ◌++◌, length, Option, Some, None, nat_eq, option_and_then, slice_get, refl, sym, ap, append_assoc, append-nil, length-append, ◌⊎◌, inl, inr, arith}
use Rattle.std.specs.List.{list_any, position_or_len}
use Rattle.std.proofs.lemmas.Bool.{cases_lt, eq-eqb, ne_eqb}
use Rattle.std.proofs.lemmas.List.{get_or_push, length_push}
use Rattle.std.proofs.lemmas.List.Folds.{prefix_len-append, position_or_len_push}
use Rattle.std.proofs.lemmas.List.Sums.{prefix_len-le-length}
use Rattle.std.proofs.lemmas.Option.{slice_get_read}
use Rattle.indexmap.specs.IndexSet.{insert_key}
use Rattle.cdi_method_maps.specs.declared.kept_methods.KeptMethods.{KeptMethods}
use Rattle.cdi_method_maps.specs.KeptMethods.{key_of, method_by, ArePlaces, Extends, Grows}

module _ {X : Type 0} where
  pub Extends-refl : (xs : List X) → Extends xs xs
  Extends-refl xs = record { more = []; is = sym (append-nil xs) }

  pub Extends-trans : (xs ys zs : List X) → Extends xs ys → Extends ys zs → Extends xs zs
  Extends-trans xs ys zs first second = record {
    more = first.more ++ second.more;
    is = second.is ∙ ap (λ (l : List X). l ++ second.more) first.is ∙ append_assoc xs first.more second.more;
  }

  pub length-Extends : (xs ys : List X) → Extends xs ys → length xs ≤ length ys
  length-Extends xs ys longer = omega (arith, ap length longer.is, length-append xs longer.more)

  slice_get-append : (xs ys : List X) (i : ℕ) → i < length xs → slice_get (xs ++ ys) i ≡ slice_get xs i
  slice_get-append [] ys i lt = absurd (omega (arith, lt))
  slice_get-append (x ∷ xs) ys zero lt = refl
  slice_get-append (x ∷ xs) ys (suc i) lt = slice_get-append xs ys i (omega (arith, lt))

  -- an item stays at its place
  pub slice_get-Extends : (xs ys : List X) (i : ℕ) → Extends xs ys → i < length xs → slice_get ys i ≡ slice_get xs i
  slice_get-Extends xs ys i longer lt = ap (λ (l : List X). slice_get l i) longer.is ∙ slice_get-append xs longer.more i lt

  -- an item that comes
  pub slice_get-push : (xs : List X) (x : X) (i : ℕ) → i ≡ length xs → slice_get (xs ++ x ∷ []) i ≡ Some x
  slice_get-push xs x i e =
      slice_get_read (xs ++ x ∷ []) (length (xs ++ x ∷ [])) i x refl (omega (arith, e, length_push xs x)) (sym (get_or_push xs x x i (sym e)))

  -- the first item that passes stays the first
  pub position_or_len-Extends : (p : X → Bool) (xs ys : List X) → Extends xs ys → position_or_len p xs < length xs
      → position_or_len p ys ≡ position_or_len p xs
  position_or_len-Extends p xs ys longer lt =
      let test : nat_eq (position_or_len p xs) (length xs) ≡ false = ne_eqb (position_or_len p xs) (length xs) (λ e. omega (arith, e, lt)) in
      ap (position_or_len p) longer.is
      ∙ prefix_len-append (λ x. not (p x)) xs longer.more
      ∙ ap (λ (b : Bool). cond b (length xs + position_or_len p longer.more) (position_or_len p xs)) test

  -- if there is none, the first one comes behind all
  pub le-position_or_len-Extends : (p : X → Bool) (xs ys : List X) → Extends xs ys → length xs ≤ position_or_len p xs
      → length xs ≤ position_or_len p ys
  le-position_or_len-Extends p xs ys longer ge =
      let most : position_or_len p xs ≤ length xs = prefix_len-le-length (λ x. not (p x)) xs in
      let test : nat_eq (position_or_len p xs) (length xs) ≡ true = eq-eqb (position_or_len p xs) (length xs) (omega (arith, ge, most)) in
      let is : position_or_len p ys ≡ length xs + position_or_len p longer.more =
      ap (position_or_len p) longer.is
      ∙ prefix_len-append (λ x. not (p x)) xs longer.more
      ∙ ap (λ (b : Bool). cond b (length xs + position_or_len p longer.more) (position_or_len p xs)) test
      in
      omega (arith, is)

  -- an item that passes, put behind a list, is the first if there was none
  position_or_len-passed : (p : X → Bool) (xs : List X) (x : X) → p x ≡ true → position_or_len p (xs ++ x ∷ []) ≡ position_or_len p xs
  position_or_len-passed p xs x e =
      position_or_len_push p xs x
      ∙ ap (λ (b : Bool). cond (nat_eq (position_or_len p xs) (length xs)) (length xs + cond b 0 1) (position_or_len p xs)) e
      ∙ by (cases_lt (position_or_len p xs) (length xs))
    where
      most : position_or_len p xs ≤ length xs
      most = prefix_len-le-length (λ y. not (p y)) xs

      by : (position_or_len p xs < length xs) ⊎ (length xs ≤ position_or_len p xs)
          → cond (nat_eq (position_or_len p xs) (length xs)) (length xs + 0) (position_or_len p xs) ≡ position_or_len p xs
      by (inl lt) =
          ap (λ (b : Bool). cond b (length xs + 0) (position_or_len p xs)) (ne_eqb (position_or_len p xs) (length xs) (λ same. omega (arith, same, lt)))
      by (inr ge) =
          ap (λ (b : Bool). cond b (length xs + 0) (position_or_len p xs)) (eq-eqb (position_or_len p xs) (length xs) (omega (arith, ge, most)))
          ∙ omega (arith, ge, most)

-- the names after one is put in
pub Extends-insert_key : (ks : List ℕ) (k : ℕ) → Extends ks (insert_key nat_eq ks k)
Extends-insert_key ks k = by (list_any (nat_eq k) ks)
  where
    by : (known : Bool) → Extends ks (cond known ks (ks ++ k ∷ []))
    by true = Extends-refl ks
    by false = record { more = k ∷ []; is = refl }

-- the key of the name that is put in
pub position_or_len-insert_key : (ks : List ℕ) (k : ℕ) → position_or_len (nat_eq k) (insert_key nat_eq ks k) ≡ position_or_len (nat_eq k) ks
position_or_len-insert_key ks k = by (list_any (nat_eq k) ks)
  where
    by : (known : Bool) → position_or_len (nat_eq k) (cond known ks (ks ++ k ∷ [])) ≡ position_or_len (nat_eq k) ks
    by true = refl
    by false = position_or_len-passed (nat_eq k) ks k (eq-eqb k k refl)

pub Grows-trans : (old between new : KeptMethods) → Grows old between → Grows between new → Grows old new
Grows-trans old between new first second = record {
  keys = Extends-trans old.keys.keys between.keys.keys new.keys.keys first.keys second.keys;
  methods = Extends-trans old.methods between.methods new.methods first.methods second.methods;
}

-- at a key that no name has is nothing
none_past : (kept : KeptMethods) (places : ℕ → Option ℕ) (key : ℕ) → ArePlaces kept places → length kept.keys.keys ≤ key → places key ≡ None
none_past kept places key are ge = by (places key) refl
  where
    by : (o : Option ℕ) → places key ≡ o → o ≡ None
    by None e = refl
    by (Some place) e = absurd (omega (arith, (are key place e).0, ge))

-- at the key that a name would get is nothing
pub none_unknown : (kept : KeptMethods) (places : ℕ → Option ℕ) (name : ℕ) → ArePlaces kept places → length kept.keys.keys ≤ key_of kept name
    → places (key_of kept name) ≡ None
none_unknown kept places name are ge = none_past kept places (key_of kept name) are ge

-- places stay places
pub ArePlaces-grown : (old new : KeptMethods) (places : ℕ → Option ℕ) → Grows old new → ArePlaces old places → ArePlaces new places
ArePlaces-grown old new places grows are = λ key place e.
    let both = are key place e in
    (omega (arith, both.0, length-Extends old.keys.keys new.keys.keys grows.keys), omega (arith, both.1, length-Extends old.methods new.methods grows.methods))

-- the method of a name stays
pub method_by-grown : (old new : KeptMethods) (places : ℕ → Option ℕ) (name : ℕ) → Grows old new → ArePlaces old places
    → method_by new places name ≡ method_by old places name
method_by-grown old new places name grows are = by (cases_lt (key_of old name) (length old.keys.keys))
  where
    at : (key : ℕ) (o : Option ℕ) → places key ≡ o → option_and_then (slice_get new.methods) o ≡ option_and_then (slice_get old.methods) o
    at key None e = refl
    at key (Some place) e = slice_get-Extends old.methods new.methods place grows.methods (are key place e).1

    by : (key_of old name < length old.keys.keys) ⊎ (length old.keys.keys ≤ key_of old name) → method_by new places name ≡ method_by old places name
    by (inl lt) =
        ap (λ (key : ℕ). option_and_then (slice_get new.methods) (places key)) (position_or_len-Extends (nat_eq name) old.keys.keys new.keys.keys grows.keys lt)
        ∙ at (key_of old name) (places (key_of old name)) refl
    by (inr ge) =
        ap (option_and_then (slice_get new.methods)) (none_past old places (key_of new name) are (le-position_or_len-Extends (nat_eq name) old.keys.keys new.keys.keys grows.keys ge))
        ∙ sym (ap (option_and_then (slice_get old.methods)) (none_past old places (key_of old name) are ge))
