use Rattle.std.proofs.Common.{◌∙◌, sym}
use Rattle.cdi_numbered_plans.proofs.Told.{injections_made, no_injections}
use Rattle.cdi_numbered_plans.proofs.injections.injections_by.Goals as goal

pub returns-then-has_few_beans-clause-steps : goal.returns-then-has_few_beans-clause-steps
returns-then-has_few_beans-clause-steps c =
    injections_made c.args.numbering.now c.args.fields.now c.injections_of.result c.injections_of.ensures.steps

pub returns-else-has_few_beans-clause-steps : goal.returns-else-has_few_beans-clause-steps
returns-else-has_few_beans-clause-steps c =
    rw c.empty.ensures (no_injections c.args.numbering.now c.args.fields.now (sym c.has_few_beans.ensures ∙ c.if-has_few_beans.false))
