-- The methods of classes, by the maps that tell their places.
use Rattle.std.specs.Prelude.{ℕ, ◌≡◌, ◌<◌, Option, Some}
use Rattle.cdi_machine.specs.declared.member.Method.{Method}
use Rattle.cdi_shared_maps.specs.Maps.{count, value_from}
use Rattle.cdi_method_maps.specs.KeptMethods.{method_by}
use Rattle.cdi_method_maps.specs.declared.method_maps.MethodMaps.{MethodMaps}

-- the method of a name by a map; none without a map, and if there is no such map
abbrev pub method_at : MethodMaps → Option ℕ → ℕ → Option Method
method_at maps map name = method_by maps.kept (value_from maps.maps map) name

-- this is the number of a map
abbrev pub IsMap : MethodMaps → ℕ → Type 0
IsMap maps map = map < count maps.maps

-- the maps that were there are still there, and have the same methods
pub record KeepsMaps (old new : MethodMaps) : Type 0 where
  pub maps : (map : ℕ) → IsMap old map → IsMap new map
  pub methods : (map name : ℕ) → IsMap old map
      → method_at new (Some map) name ≡ method_at old (Some map) name
