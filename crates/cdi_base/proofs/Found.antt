-- What is found among values of items is the value of the first such item.
use Rattle.std.proofs.Common.{◌≡◌, Bool, true, false, cond, List, [], ◌∷◌, map, Some, find, option_map, refl}

-- a test of the values is one of the items
pub found_among_values : {A B : Type 0} (value : A → B) (test : B → Bool) (items : List A)
    → find test (map value items) ≡ option_map value (find (λ item. test (value item)) items)
found_among_values value test [] = refl
found_among_values value test (item ∷ items) =
    either (test (value item)) (found_among_values value test items)
  where
    either : (passes : Bool)
        → find test (map value items) ≡ option_map value (find (λ item. test (value item)) items)
        → cond passes (Some (value item)) (find test (map value items))
        ≡ option_map value (cond passes (Some item) (find (λ item. test (value item)) items))
    either true later = refl
    either false later = later
