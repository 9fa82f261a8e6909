-- An array has an item where it is not empty.
use Rattle.std.proofs.Common.{◌≡◌, List, [], ◌∷◌, length, ◌≤◌, true, refl, arith}
use Rattle.serde_json.specs.Data.{array}
use Rattle.serde_json.specs.View.{items_view}
use Rattle.serde_json.specs.declared.value.Value.{Value}
use Rattle.cdi_form.specs.Shape.{has_item}

pub some_item : (xs : List Value) → 1 ≤ length xs → has_item (array (items_view xs)) ≡ true
some_item [] h = absurd (omega arith)
some_item (x ∷ xs) h = refl
