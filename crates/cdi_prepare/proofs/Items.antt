-- Arrays of steps, and the first item that is none.
use Rattle.std.proofs.Common.{◌≡◌, ℕ, ◌+◌, Bool, true, false, not, ◌&&◌, List, [], ◌∷◌, length, Option, Some, cond, nat_le, refl}
use Rattle.std.specs.List.{position_from}
use Rattle.std.specs.Option.{is_none}
use Rattle.serde_json.specs.Data.{array, Items, no_items, item}
use Rattle.serde_json.specs.View.{view, items_view}
use Rattle.serde_json.proofs.Views.{items_len-items_view}
use Rattle.serde_json.specs.declared.value.Value.{Value}
use Rattle.cdi_script.specs.Form.{are_steps, is_script, is_step}
use Rattle.cdi_prepare.specs.BadStep.{bad_item_from}

by_step : (b : Bool) (o p : Option ℕ) (index : ℕ) → o ≡ p → cond b o (Some index) ≡ cond (not b) (Some index) p
by_step true o p index same = same
by_step false o p index same = refl

pub first_bad_item : (index : ℕ) (xs : List Value)
    → bad_item_from index (items_view xs) ≡ position_from (λ item. not (is_step (view item))) index xs
first_bad_item index [] = refl
first_bad_item index (x ∷ xs) = by_step (is_step (view x)) _ _ index (first_bad_item (index + 1) xs)

-- of an array of steps only their number decides
pub few_steps : (xs : List Value) → are_steps (items_view xs) ≡ true → nat_le (length xs) 256 ≡ is_script (array (items_view xs))
few_steps xs steps = rw (steps, items_len-items_view) refl

test_and_rest : (b rest : Bool) (o : Option ℕ) (index : ℕ) → rest ≡ is_none o → (b && rest) ≡ is_none (cond b o (Some index))
test_and_rest true rest o index same = same
test_and_rest false rest o index same = refl

pub steps_where_none : (index : ℕ) (ds : Items) → are_steps ds ≡ is_none (bad_item_from index ds)
steps_where_none index no_items = refl
steps_where_none index (item d ds) =
    test_and_rest (is_step d) _ (bad_item_from (index + 1) ds) index (steps_where_none (index + 1) ds)
