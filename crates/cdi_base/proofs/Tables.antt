-- Places in a list of texts, and entries of a map.
use Rattle.std.proofs.Common.{◌≡◌, ℕ, suc, ◌+◌, ◌<◌, ◌≤◌, Bool, true, false, cond, not, ◌||◌, List, [], ◌∷◌, ◌++◌, length, map, get_or, slice_get, position, Some, None, nat_eq, refl, sym, ap, ◌∙◌, append_assoc, append-nil, arith}
use Rattle.std.proofs.lemmas.List.{length-map}
use Rattle.std.proofs.lemmas.List.Sums.{position_or_len_is, prefix_len-le-length}
use Rattle.std.proofs.lemmas.Map.Keys.{apart_from_distinct}
use Rattle.std.proofs.lemmas.Option.{slice_get_within, get_or_from_slice_get}
use Rattle.std.specs.Cmp.{IsEquivalence}
use Rattle.std.specs.List.{list_any, position_or_len, IsDistinct}
use Rattle.std.specs.Map.{keys_of, lookup}
use Rattle.std.specs.Option.{unwrap_or, is_some}
use Rattle.std.specs.Bool.{nat_lt}
use Rattle.indexmap.specs.IndexMap.{insert_entry}
use Rattle.indexmap.specs.Layout.{set_value_at}
use Rattle.cdi_base.specs.declared.value.Value.{Value}
use Rattle.cdi_base.specs.declared.value.Value.TheVariants.{Null}
use Rattle.cdi_base.specs.Fields.{has, get, put, set}
use Rattle.cdi_base.specs.Name.{Extends, is_known, with_name}

module _ {X Y : Type 0} (p : Y → Bool) (f : X → Y) where
  pub position_or_len-map : (xs : List X) → position_or_len p (map f xs) ≡ position_or_len (λ x. p (f x)) xs
  position_or_len-map [] = refl
  position_or_len-map (x ∷ xs) = ap (λ n. cond (not (p (f x))) (1 + n) 0) (position_or_len-map xs)

  pub list_any-map : (xs : List X) → list_any p (map f xs) ≡ list_any (λ x. p (f x)) xs
  list_any-map [] = refl
  list_any-map (x ∷ xs) = ap (λ b. p (f x) || b) (list_any-map xs)

  pub position-map : (xs : List X) → position p (map f xs) ≡ position (λ x. p (f x)) xs
  position-map xs = rw (position_or_len-map xs, length-map xs f) refl

-- each key is the first that is equal to it
pub first_of_distinct : {K : Type 0} (eq : K → K → Bool) → IsEquivalence eq → (ks : List K) (i : ℕ) (k : K) → IsDistinct eq ks → slice_get ks i ≡ Some k → position_or_len (eq k) ks ≡ i
first_of_distinct eq laws ks i k apart at =
    let within : i < length ks = slice_get_within ks i k at in
    let here : get_or ks i k ≡ k = get_or_from_slice_get ks i k k at in
    position_or_len_is (eq k) ks i k (omega arith)
    (λ j lt. laws.symm k (get_or ks j k) ∙ ap (eq (get_or ks j k)) (sym here) ∙ apart_from_distinct eq ks j i k apart lt within)
    (λ lt. ap (eq k) here ∙ laws.refl k)

pub set-by_place : (es : List (ℕ × Value)) (k : ℕ) (v : Value) → set es k v ≡ set_value_at es (position_or_len (nat_eq k) (keys_of es)) v
set-by_place [] k v = refl
set-by_place (e ∷ es) k v = by (set-by_place es k v) (nat_eq k e.0)
  where
    by : set es k v ≡ set_value_at es (position_or_len (nat_eq k) (keys_of es)) v → (b : Bool) → cond b ((e.0, v) ∷ es) (e ∷ set es k v) ≡ set_value_at (e ∷ es) (cond (not b) (1 + position_or_len (nat_eq k) (keys_of es)) 0) v
    by later true = refl
    by later false =
        let one : 1 + position_or_len (nat_eq k) (keys_of es) ≡ suc (position_or_len (nat_eq k) (keys_of es)) = omega arith in
        rw one (ap (λ r. e ∷ r) later)

pub put-insert_entry : (es : List (ℕ × Value)) (k : ℕ) (v : Value) → put es k v ≡ insert_entry nat_eq es k v
put-insert_entry [] k v = refl
put-insert_entry (e ∷ es) k v = ap (λ r. cond (nat_eq k e.0) ((e.0, v) ∷ es) (e ∷ r)) (put-insert_entry es k v)

pub get-lookup : (es : List (ℕ × Value)) (k : ℕ) → get es k ≡ unwrap_or (lookup (nat_eq k) es) Null
get-lookup [] k = refl
get-lookup (e ∷ es) k = by (get-lookup es k) (nat_eq k e.0)
  where
    by : get es k ≡ unwrap_or (lookup (nat_eq k) es) Null → (b : Bool) → cond b e.1 (get es k) ≡ unwrap_or (cond b (Some e.1) (lookup (nat_eq k) es)) Null
    by later true = refl
    by later false = later

pub has-lookup : (es : List (ℕ × Value)) (k : ℕ) → has es k ≡ is_some (lookup (nat_eq k) es)
has-lookup [] k = refl
has-lookup (e ∷ es) k = by (has-lookup es k) (nat_eq k e.0)
  where
    by : has es k ≡ is_some (lookup (nat_eq k) es) → (b : Bool) → (b || has es k) ≡ is_some (cond b (Some e.1) (lookup (nat_eq k) es))
    by later true = refl
    by later false = later

pub place_of : {X : Type 0} (p : X → Bool) (xs : List X) (i : ℕ) → Some i ≡ position p xs → i ≡ position_or_len p xs
place_of p xs i e = by (nat_lt (position_or_len p xs) (length xs)) e
  where
    by : (b : Bool) → Some i ≡ cond b (Some (position_or_len p xs)) None → i ≡ position_or_len p xs
    by true h = cc
    by false h = absurd cc

pub set-absent : (es : List (ℕ × Value)) (k : ℕ) (v : Value) → is_some (lookup (nat_eq k) es) ≡ false → es ≡ set es k v
set-absent [] k v h = refl
set-absent (e ∷ es) k v h = by (set-absent es k v) (nat_eq k e.0) h
  where
    by : (is_some (lookup (nat_eq k) es) ≡ false → es ≡ set es k v) → (b : Bool) → is_some (cond b (Some e.1) (lookup (nat_eq k) es)) ≡ false
        → e ∷ es ≡ cond b ((e.0, v) ∷ es) (e ∷ set es k v)
    by later true h = absurd cc
    by later false h = ap (λ r. e ∷ r) (later h)

pub past_all : {X : Type 0} (p : X → Bool) (xs : List X) → None ≡ position p xs → length xs ≡ position_or_len p xs
past_all p xs h = by (nat_lt (position_or_len p xs) (length xs)) refl h
  where
    within : position_or_len p xs ≤ length xs
    within = prefix_len-le-length (λ x. not (p x)) xs

    not_below : nat_lt (position_or_len p xs) (length xs) ≡ false → length xs ≤ position_or_len p xs
    not_below e = grind arith

    by : (b : Bool) → nat_lt (position_or_len p xs) (length xs) ≡ b → None ≡ cond b (Some (position_or_len p xs)) None → length xs ≡ position_or_len p xs
    by true e h = absurd cc
    by false e h = omega (arith, within, not_below e)

pub stays : (names : List (List ℕ)) → Extends names names
stays names = record { more = []; is = sym (append-nil names) }

pub joins : {before between after : List (List ℕ)} → Extends before between → Extends between after → Extends before after
joins {before} first second = record { more = first.more ++ second.more; is = second.is ∙ ap (λ ns. ns ++ second.more) first.is ∙ append_assoc before first.more second.more }

pub with_one : (names : List (List ℕ)) (text : List ℕ) → Extends names (with_name names text)
with_one names text = by (is_known names text)
  where
    by : (known : Bool) → Extends names (cond known names (names ++ text ∷ []))
    by true = stays names
    by false = record { more = text ∷ []; is = refl }
