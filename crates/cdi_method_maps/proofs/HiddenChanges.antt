-- Changes that take methods out of a map.
use Rattle.std.proofs.Common.{◌≡◌, ◌∙◌, ℕ, ◌+◌, ◌<◌, Bool, true, false, cond, ◌||◌, List, [], ◌∷◌, ◌++◌, length, get_or, take, Option, Some, None, nat_eq, option_map, option_and_then, position, slice_get, refl, sym, ap, ◌⊎◌, inl, inr, arith}
use Rattle.std.specs.Bool.{nat_lt}
use Rattle.std.specs.List.{cons_option, position_or_len}
use Rattle.std.proofs.lemmas.Bool.{cases_eq, eq-eqb, ne_eqb, ltb-true}
use Rattle.std.proofs.lemmas.List.{take_more}
use Rattle.std.proofs.lemmas.List.Elements.{filter_map-append}
use Rattle.cdi_shared_maps.specs.Maps.{changed}
use Rattle.cdi_shared_maps.specs.declared.change.Change.{Change}
use Rattle.cdi_base.proofs.Tables.{place_of, past_all}
use Rattle.cdi_method_maps.specs.declared.kept_methods.KeptMethods.{KeptMethods}
use Rattle.cdi_method_maps.specs.NamedMethods.{is_among}
use Rattle.cdi_method_maps.specs.KeptMethods.{key_of, method_by, ArePlaces, hidden_change, hidden_changes}
use Rattle.cdi_method_maps.proofs.Growth.{none_unknown}
use Rattle.cdi_method_maps.proofs.Puts.{one_name}

-- the change that takes out the method at a key
abbrev pub taken_out : ℕ → Change
taken_out key = record { key = key; value = None }

-- a place at which an item is found is one of the list
within : (p : ℕ → Bool) (xs : List ℕ) (i : ℕ) → Some i ≡ position p xs → i < length xs
within p xs i e = by (nat_lt (position_or_len p xs) (length xs)) refl e
  where
    by : (b : Bool) → nat_lt (position_or_len p xs) (length xs) ≡ b → Some i ≡ cond b (Some (position_or_len p xs)) None → i < length xs
    by true lt h =
        let same : i ≡ position_or_len p xs = cc in
        omega (arith, same, ltb-true (position_or_len p xs) (length xs) lt)
    by false lt h = absurd cc

-- the changes for one name more
pub hidden_changes-more : (kept : KeptMethods) (names : List ℕ) (i name : ℕ) (o : Option ℕ) → i < length names → name ≡ get_or names i name → o ≡ position (nat_eq name) kept.keys.keys
    → hidden_changes kept (take (i + 1) names) ≡ hidden_changes kept (take i names) ++ cons_option (option_map taken_out o) []
hidden_changes-more kept names i name o lt is found =
    ap (hidden_changes kept) (take_more names i name lt ∙ ap (λ (n : ℕ). take i names ++ n ∷ []) (sym is))
    ∙ filter_map-append (hidden_change kept) (take i names) (name ∷ [])
    ∙ ap (λ (p : Option ℕ). hidden_changes kept (take i names) ++ cons_option (option_map taken_out p) []) (sym found)

module _ (kept : KeptMethods) (places : ℕ → Option ℕ) (are : ArePlaces kept places) where
  -- what is at the key of a name then
  hidden_at : (names : List ℕ) (name : ℕ) → changed (hidden_changes kept names) places (key_of kept name) ≡ cond (is_among name names) None (places (key_of kept name))
  hidden_at [] name = refl
  hidden_at (n ∷ ns) name = by (position (nat_eq n) kept.keys.keys) refl (cases_eq n name) (hidden_at ns name)
    where
      none_or : (b : Bool) (o : Option ℕ) → o ≡ None → cond b None o ≡ None
      none_or true o e = refl
      none_or false o e = e

      by : (o : Option ℕ) → o ≡ position (nat_eq n) kept.keys.keys → (n ≡ name) ⊎ (n ≡ name → ⊥)
          → changed (hidden_changes kept ns) places (key_of kept name) ≡ cond (is_among name ns) None (places (key_of kept name))
          → changed (cons_option (option_map taken_out o) (hidden_changes kept ns)) places (key_of kept name) ≡ cond (nat_eq n name || is_among name ns) None (places (key_of kept name))
      by None e (inl same) rest =
          let past : length kept.keys.keys ≡ key_of kept n = past_all (nat_eq n) kept.keys.keys e in
          let none : places (key_of kept name) ≡ None = none_unknown kept places name are (omega (arith, past, ap (key_of kept) same)) in
          rest ∙ none_or (is_among name ns) (places (key_of kept name)) none
          ∙ sym (ap (λ (b : Bool). cond (b || is_among name ns) None (places (key_of kept name))) (eq-eqb n name same))
      by None e (inr other) rest =
          rest ∙ sym (ap (λ (b : Bool). cond (b || is_among name ns) None (places (key_of kept name))) (ne_eqb n name other))
      by (Some key) e (inl same) rest =
          let is : key ≡ key_of kept name = place_of (nat_eq n) kept.keys.keys key e ∙ ap (key_of kept) same in
          ap (λ (b : Bool). cond b None (changed (hidden_changes kept ns) places (key_of kept name))) (eq-eqb key (key_of kept name) is)
          ∙ sym (ap (λ (b : Bool). cond (b || is_among name ns) None (places (key_of kept name))) (eq-eqb n name same))
      by (Some key) e (inr other) rest =
          let is : key ≡ key_of kept n = place_of (nat_eq n) kept.keys.keys key e in
          ap (λ (b : Bool). cond b None (changed (hidden_changes kept ns) places (key_of kept name))) (ne_eqb key (key_of kept name) (λ also. other (one_name kept n name key is also (within (nat_eq n) kept.keys.keys key e))))
          ∙ rest
          ∙ sym (ap (λ (b : Bool). cond (b || is_among name ns) None (places (key_of kept name))) (ne_eqb n name other))

  -- the method of a name then
  pub method_by-hidden : (names : List ℕ) (name : ℕ) → method_by kept (changed (hidden_changes kept names) places) name ≡ cond (is_among name names) None (method_by kept places name)
  method_by-hidden names name =
      ap (option_and_then (slice_get kept.methods)) (hidden_at names name) ∙ by (is_among name names)
    where
      by : (b : Bool) → option_and_then (slice_get kept.methods) (cond b None (places (key_of kept name))) ≡ cond b None (method_by kept places name)
      by true = refl
      by false = refl

  left : (names : List ℕ) (key place : ℕ) → changed (hidden_changes kept names) places key ≡ Some place → places key ≡ Some place
  left [] key place e = e
  left (n ∷ ns) key place e = by (left ns key place) (position (nat_eq n) kept.keys.keys) e
    where
      at : (changed (hidden_changes kept ns) places key ≡ Some place → places key ≡ Some place) → (b : Bool)
          → cond b None (changed (hidden_changes kept ns) places key) ≡ Some place → places key ≡ Some place
      at rest true e = absurd cc
      at rest false e = rest e

      by : (changed (hidden_changes kept ns) places key ≡ Some place → places key ≡ Some place) → (o : Option ℕ)
          → changed (cons_option (option_map taken_out o) (hidden_changes kept ns)) places key ≡ Some place → places key ≡ Some place
      by rest None e = rest e
      by rest (Some k) e = at rest (nat_eq k key) e

  -- places stay places then
  pub ArePlaces-hidden : (names : List ℕ) → ArePlaces kept (changed (hidden_changes kept names) places)
  ArePlaces-hidden names = λ key place e. are key place (left names key place e)
