-- Lists of values beside their data: whether all pass, and none left.
use Rattle.std.proofs.Common.{◌≡◌, ◌==◌, Bool, ◌&&◌, List, [], ◌∷◌, length, refl, ap, arith}
use Rattle.std.specs.List.{list_all}
use Rattle.serde_json.specs.Data.{Data}
use Rattle.serde_json.specs.View.{view, items_view}
use Rattle.serde_json.specs.declared.value.Value.{Value}
use Rattle.cdi_script.specs.declared.part.PartKind.{PartKind}
use Rattle.cdi_script.specs.Part.{are_parts}
use Rattle.cdi_script.specs.Reading.{all_items}

pub list_all-view : (test : Data → Bool) (xs : List Value) → list_all (λ x. test (view x)) xs ≡ all_items test (items_view xs)
list_all-view test [] = refl
list_all-view test (x ∷ xs) = ap (λ b. test (view x) && b) (list_all-view test xs)

-- where no kinds are left there are parts only if no values are left
pub none_left : (kinds : List PartKind) (xs : List Value) → length kinds ≡ 0 → (length xs == 0) ≡ are_parts kinds (items_view xs)
none_left (kind ∷ kinds) xs h = absurd (omega arith)
none_left [] [] h = refl
none_left [] (x ∷ xs) h = grind arith
