-- What the last class of a line has of what a class of the line declares.
use Rattle.std.specs.Prelude.{ℕ, ◌&&◌, ◌||◌, Bool, not}
use Rattle.cdi_deployment.specs.declared.deployment.Member.{Member}
use Rattle.cdi_deployment.specs.Member.{member_name}
use Rattle.cdi_types.specs.Members.{is_inherited}

-- the last class has all its own members, and of a class above those inherited ones whose names the classes below don't declare
abbrev pub is_had : (ℕ → Bool) → Bool → Member → Bool
is_had is_below is_last member =
    is_last || (is_inherited member && not (is_below (member_name member)))
