-- The warning for the bytes of a deployment.
use Rattle.std.specs.Prelude.{◌≡◌, ℕ, List, Option, option_map, IfSome}
use Rattle.cdi_positions.specs.Position.{IsPositionIn}
use Rattle.cdi_positions.specs.declared.repeated_keys.RepeatedKey.{RepeatedKey}
use Rattle.cdi_prepare.specs.Warning.{lost_key}

-- this is the warning for bytes: of the first key that stands twice in an object
pub record IsWarningFor (bytes : List ℕ) (warning : Option RepeatedKey) : Type 0 where
  pub key : option_map (λ r. r.key) warning ≡ lost_key bytes
  pub position : IfSome warning (λ r. IsPositionIn bytes r.position)
