-- What is kept of classes stands where it is looked for.
use Rattle.std.specs.Prelude.{ℕ, ◌≡◌, Bool, true, List, length, nat_lt, Some, slice_get}
use Rattle.std.specs.List.{list_all}
use Rattle.cdi_class_lives.specs.declared.life.ClassLife.{ClassLife}
use Rattle.cdi_deployment.specs.declared.deployment.Field.{Field}
use Rattle.cdi_machine.specs.declared.step.Step.{Step}
use Rattle.cdi_method_maps.specs.MethodMaps.{IsMap}
use Rattle.cdi_method_maps.specs.declared.method_maps.MethodMaps.{MethodMaps}

-- something stands at these places
abbrev pub are_below : ℕ → List ℕ → Bool
are_below count places = list_all (λ place. nat_lt place count) places

pub record IsKept (steps : List Step) (fields : List Field) (maps : MethodMaps) (life : ClassLife)
    : Type 0 where
  pub step_places : are_below (length steps) life.injections ≡ true
  pub field_places : are_below (length fields) life.fields ≡ true
  pub map : (map : ℕ) → life.methods ≡ Some map → IsMap maps map

-- each class has the places of steps and of fields, and a map
abbrev pub AreKept : List Step → List Field → MethodMaps → List ClassLife → Type 0
AreKept steps fields maps lives =
    (class : ℕ) (life : ClassLife) → slice_get lives class ≡ Some life → IsKept steps fields maps life
