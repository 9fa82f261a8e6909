-- Items that are not two are no use.
use Rattle.std.proofs.Common.{◌≡◌, ◌≢◌, List, [], ◌∷◌, length, None, refl, arith}
use Rattle.serde_json.specs.View.{items_view}
use Rattle.serde_json.specs.declared.value.Value.{Value}
use Rattle.cdi_form.specs.ValueForms.{use_of_items}

pub no_use : (xs : List Value) → length xs ≢ 2 → use_of_items (items_view xs) ≡ None
no_use [] h = refl
no_use (a ∷ []) h = refl
no_use (a ∷ b ∷ []) h = absurd (h (omega arith))
no_use (a ∷ b ∷ c ∷ xs) h = refl
