-- What a list of found items has.
use Rattle.std.specs.Prelude.{List, [], ◌∷◌}

-- it lists those items for which P holds, all of them, in their order
pub data ListsThose {X : Type 0} (P : X → Type 0) : List X → List X → Type 0 where
  none : ListsThose P [] []
  keep : {x : X} {xs found : List X} → P x → ListsThose P xs found
      → ListsThose P (x ∷ xs) (x ∷ found)
  skip : {x : X} {xs found : List X} → ¬ P x → ListsThose P xs found → ListsThose P (x ∷ xs) found
