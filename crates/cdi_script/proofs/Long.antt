-- Arrays by the number of their items: of one, of three and more, of four and more.
use Rattle.std.proofs.Common.{◌≡◌, ℕ, suc, ap, ◌≤◌, List, [], ◌∷◌, length, false, None, Err, refl, arith}
use Rattle.std.proofs.lemmas.Bool.{and_right, le-ltb}
use Rattle.serde_json.specs.Data.{Data, array, Items, no_items, item}
use Rattle.serde_json.specs.Events.{items_len}
use Rattle.serde_json.specs.View.{view, items_view}
use Rattle.serde_json.specs.declared.value.Value.{Value}
use Rattle.cdi_script.specs.declared.fault.ScriptFault.TheVariants.{BadStep}
use Rattle.cdi_script.specs.Expression.{is_expression, expression_of}
use Rattle.cdi_script.specs.Form.{caught, are_steps, are_too_many}
use Rattle.cdi_script.specs.Qualifier.{has_use_names}
use Rattle.cdi_script.specs.Via.{is_via, via_of, local_of}

pub record IsOne (ds : Items) : Type 0 where
  pub only : Data
  pub is : ds ≡ item only no_items

pub record HasThree (ds : Items) : Type 0 where
  pub first : Data
  pub second : Data
  pub third : Data
  pub more : Items
  pub is : ds ≡ item first (item second (item third more))

one : (xs : List Value) → length xs ≡ 1 → IsOne (items_view xs)
one [] h = absurd (omega arith)
one (a ∷ []) h = record { only = view a; is = refl }
one (a ∷ b ∷ xs) h = absurd (omega arith)

three : (xs : List Value) → 3 ≤ length xs → HasThree (items_view xs)
three [] h = absurd (omega arith)
three (a ∷ []) h = absurd (omega arith)
three (a ∷ b ∷ []) h = absurd (omega arith)
three (a ∷ b ∷ c ∷ xs) h = record { first = view a; second = view b; third = view c; more = items_view xs; is = refl }

pub none_read : (xs : List Value) (names : List (List ℕ)) → 4 ≤ length xs → expression_of names (array (items_view xs)) ≡ Err BadStep
none_read [] names h = absurd (omega arith)
none_read (a ∷ []) names h = absurd (omega arith)
none_read (a ∷ b ∷ []) names h = absurd (omega arith)
none_read (a ∷ b ∷ c ∷ []) names h = absurd (omega arith)
none_read (a ∷ b ∷ c ∷ d ∷ xs) names h = refl

pub is_none : (xs : List Value) → 4 ≤ length xs → is_expression (array (items_view xs)) ≡ false
is_none [] h = absurd (omega arith)
is_none (a ∷ []) h = absurd (omega arith)
is_none (a ∷ b ∷ []) h = absurd (omega arith)
is_none (a ∷ b ∷ c ∷ []) h = absurd (omega arith)
is_none (a ∷ b ∷ c ∷ d ∷ xs) h = refl

-- one item or three are no reference
pub one_is_no_via : (xs : List Value) → length xs ≡ 1 → is_via (array (items_view xs)) ≡ false
one_is_no_via xs h = rw (one xs h).is refl

pub three_are_no_via : (xs : List Value) → 3 ≤ length xs → is_via (array (items_view xs)) ≡ false
three_are_no_via xs h = rw (three xs h).is refl

pub no_via_of_one : (names : List (List ℕ)) (xs : List Value) → length xs ≡ 1 → via_of names (array (items_view xs)) ≡ Err BadStep
no_via_of_one names xs h = rw (one xs h).is refl

pub no_via_of_three : (names : List (List ℕ)) (xs : List Value) → 3 ≤ length xs → via_of names (array (items_view xs)) ≡ Err BadStep
no_via_of_three names xs h = rw (three xs h).is refl

-- nor a local
pub one_is_no_local : (xs : List Value) → length xs ≡ 1 → local_of (array (items_view xs)) ≡ None
one_is_no_local xs h = rw (one xs h).is refl

pub three_are_no_local : (xs : List Value) → 3 ≤ length xs → local_of (array (items_view xs)) ≡ None
three_are_no_local xs h = rw (three xs h).is refl

-- nor do they have the names of a use
pub one_has_no_use : (xs : List Value) → length xs ≡ 1 → has_use_names (array (items_view xs)) ≡ false
one_has_no_use xs h = rw (one xs h).is refl

pub three_have_no_use : (xs : List Value) → 3 ≤ length xs → has_use_names (array (items_view xs)) ≡ false
three_have_no_use xs h = rw (three xs h).is refl

-- nor are they a catch
pub one_catches_nothing : (xs : List Value) → length xs ≡ 1 → caught (items_view xs) ≡ None
one_catches_nothing xs h = rw (one xs h).is refl

pub three_catch_nothing : (xs : List Value) → 3 ≤ length xs → caught (items_view xs) ≡ None
three_catch_nothing xs h = rw (three xs h).is refl

pub items_len-items_view : (xs : List Value) → items_len (items_view xs) ≡ length xs
items_len-items_view [] = refl
items_len-items_view (x ∷ xs) = ap suc (items_len-items_view xs)

pub ruleset lengths = (items_len-items_view)

pub few_are_not_many : (xs : List Value) → length xs ≤ 256 → are_too_many (items_view xs) ≡ false
few_are_not_many xs h = and_right (are_steps (items_view xs)) _ (le-ltb _ _ (omega (arith, items_len-items_view xs)))
