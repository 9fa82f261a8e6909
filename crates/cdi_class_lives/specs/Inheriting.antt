-- What a class leaves of what its direct superclass has, by the names of the members that it declares (Jakarta CDI 4.0, Inheritance of
-- member-level metadata).
use Rattle.std.specs.Prelude.{ℕ, Bool, true, not, List, Option, Some, None, slice_get}
use Rattle.cdi_base.specs.declared.place.Place.{Place}
use Rattle.cdi_base.specs.declared.place.Place.TheVariants as places
use Rattle.cdi_machine.specs.Tables.{Code}
use Rattle.cdi_machine.specs.declared.step.Step.{Step}
use Rattle.cdi_machine.specs.declared.step.Step.TheVariants as steps
use Rattle.cdi_method_maps.specs.NamedMethods.{is_among}

module _ (declared : List ℕ) where
  -- the member that stands at a place
  abbrev pub leaves_place : Place → Bool
  leaves_place (places.Member class name) = not (is_among name declared)
  leaves_place place = true

  -- a callback
  abbrev pub leaves_code : Code → Bool
  leaves_code c = leaves_place c.place

  -- an injected field, or an initializer
  abbrev pub leaves_step : Step → Bool
  leaves_step (steps.Initialize code points) = leaves_place code.place
  leaves_step step = true

  abbrev pub leaves_if_any : Option Step → Bool
  leaves_if_any None = true
  leaves_if_any (Some step) = leaves_step step

  -- the one at a place
  abbrev pub leaves_at : List Step → ℕ → Bool
  leaves_at kept place = leaves_if_any (slice_get kept place)
