use Rattle.std.proofs.Common.{◌∙◌, ap, length, List}
use Rattle.cdi_deployment.specs.declared.deployment.Script.{Script}
use Rattle.cdi_prepare.proofs.Counted.{scripts-count}
use Rattle.cdi_prepare.proofs.reading.prepare_scripts.Goals as goal

pub returns-in-Ok-clause-count : goal.returns-in-Ok-clause-count
returns-in-Ok-clause-count c = scripts-count c.args.deployment.names c.as_slice.result.now c.in-Ok.scripts.items _ c.in-Ok.ensures.gives ∙ ap (λ (xs : List Script). length xs) c.as_slice.ensures
