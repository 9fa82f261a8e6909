use Rattle.std.proofs.Common.{◌∙◌, ap, sym}
use Rattle.std.specs.Prelude.{option_and_then}
use Rattle.std.specs.Option.{option_copied}
use Rattle.cdi_plans.specs.Chains.{member_level_in}
use Rattle.cdi_plans.proofs.chains.member_of.Goals as goal

pub returns-in-Some : goal.returns-in-Some
returns-in-Some c =
    (rw c.as_slice.ensures at c.member_named.ensures)
    ∙ ap (λ class. option_and_then (member_level_in c.args.name) (option_copied class)) (sym c.in-Some.is)
