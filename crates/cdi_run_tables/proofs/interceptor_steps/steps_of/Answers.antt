use Rattle.std.proofs.Common.{[], subst}
use Rattle.std.specs.Prelude.{slice_get}
use Rattle.cdi_run_tables.specs.Index.{AreStepsOf}
use Rattle.cdi_run_tables.specs.Seen.{parts_seen}
use Rattle.cdi_run_tables.proofs.Creating.{no_steps, steps_of_declared}
use Rattle.cdi_run_tables.proofs.interceptor_steps.steps_of.Goals as goal

pub returns-in-Some-clause-steps : goal.returns-in-Some-clause-steps
returns-in-Some-clause-steps c =
    let t = parts_seen c.args.parts.now in
    let o = slice_get t.deployment.interceptors c.args.interceptor.now.index in
    steps_of_declared t c.args.numbering.now c.requires.numbering c.in-Some.declared.now o c.in-Some.ensures c.injections_by.result (rw c.as_slice.ensures at c.injections_by.ensures.steps)

pub returns-in-None-clause-steps : goal.returns-in-None-clause-steps
returns-in-None-clause-steps c =
    let t = parts_seen c.args.parts.now in
    rw c.empty.ensures (subst (λ o. AreStepsOf t o []) c.in-None.ensures (no_steps t))
