use Rattle.std.proofs.Common.{◌-◌, refl}
use Rattle.cdi_steps.proofs.ParameterSteps.{step_has, step_is, step_there}
use Rattle.cdi_calls.proofs.parameters.step_of.Goals as goal

pub returns-clause-there : goal.returns-clause-there
returns-clause-there g c = step_there (g.T.Tables.tables c.args.tables.now) (λ s. s.now) c.args.parameters.now (c.steps.result - c.args.parameters.now.left - 1) c.step.result c.requires (rw c.steps.ensures refl) c.step.ensures.found

pub returns-clause-is : goal.returns-clause-is
returns-clause-is g c = step_is (g.T.Tables.tables c.args.tables.now) (λ s. s.now) c.args.parameters.now (c.steps.result - c.args.parameters.now.left - 1) c.step.result c.requires (rw c.steps.ensures refl) c.step.ensures.found

pub returns-clause-has : goal.returns-clause-has
returns-clause-has g c = step_has (g.T.Tables.tables c.args.tables.now) (λ s. s.now) c.args.parameters.now (c.steps.result - c.args.parameters.now.left - 1) c.step.result c.requires (rw c.steps.ensures refl) c.step.ensures.found
