-- Lists with and without an item, and parts that are asked for or not.
use Rattle.std.proofs.Common.{◌≡◌, ◌∙◌, ◌&&◌, not, Bool, true, false, cond, List, [], ◌∷◌, map, None, refl, ap}
use Rattle.std.specs.List.{list_any, flat_map, find}
use Rattle.std.specs.Prelude.{◌↔◌, IsTrue}
use Rattle.cdi_shape_check.specs.AskedParts.{has_item}
use Rattle.cdi_shape_check.specs.declared.asked.AskedParts.{AskedParts}

pub is_item_there : {X : Type 0} (xs : List X) (empty : Bool) → (IsTrue empty ↔ (xs ≡ [])) → not empty ≡ has_item xs
is_item_there [] true e = refl
is_item_there [] false e = absurd (let no : false ≡ true = e.1 refl in cc)
is_item_there (x ∷ xs) true e = absurd (let no : (x ∷ xs) ≡ [] = e.0 refl in cc)
is_item_there (x ∷ xs) false e = refl

-- of a list that is looked at only if it is asked for
module _ {X Y : Type 0} (f : X → Y) (asked : Bool) (xs : List X) where
  pub any_asked : (test : Y → Bool) → list_any test (map f (cond asked xs [])) ≡ (asked && list_any test (map f xs))
  any_asked test = by asked
    where
      by : (b : Bool) → list_any test (map f (cond b xs [])) ≡ (b && list_any test (map f xs))
      by true = refl
      by false = refl

  pub found_asked : {Z : Type 0} (items : Y → List Z) (test : Z → Bool) → find test (flat_map items (map f (cond asked xs []))) ≡ cond asked (find test (flat_map items (map f xs))) None
  found_asked items test = by asked
    where
      by : (b : Bool) → find test (flat_map items (map f (cond b xs []))) ≡ cond b (find test (flat_map items (map f xs))) None
      by true = refl
      by false = refl

pub same_asked : (f g i j m n : Bool) → f ≡ g → i ≡ j → m ≡ n → ◌≡◌ {A = AskedParts} (record { fields = f; injected = i; methods = m }) (record { fields = g; injected = j; methods = n })
same_asked f g i j m n fields injected methods =
    let parts : Bool → Bool → Bool → AskedParts = λ f i m. record { fields = f; injected = i; methods = m } in
    ap (λ x. parts x i m) fields ∙ ap (λ x. parts g x m) injected ∙ ap (λ x. parts g j x) methods
