-- Which key of a deployment's bytes is warned of.
use Rattle.std.specs.Prelude.{ℕ, List, Option, None, if◌then◌else◌}
use Rattle.cdi_deploy.specs.Reading.{is_too_long}
use Rattle.cdi_positions.specs.RepeatedKey.{repeated_key}

-- none of too many bytes
abbrev pub lost_key : List ℕ → Option (List ℕ)
lost_key bytes = if is_too_long bytes then None else repeated_key bytes
