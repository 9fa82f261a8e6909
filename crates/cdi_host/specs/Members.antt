-- The bodies at the end of a chain.
use Rattle.std.specs.Prelude.{List, ◌∷◌, []}
use Rattle.cdi_machine.specs.Tables.{Code}
use Rattle.cdi_host.specs.declared.members.Kept.{Kept}
use Rattle.cdi_host.specs.declared.members.Kept.TheVariants as kept

-- one alone, or all of these
abbrev pub members_in : Kept → List Code
members_in (kept.One c) = c ∷ []
members_in (kept.Any cs) = cs
