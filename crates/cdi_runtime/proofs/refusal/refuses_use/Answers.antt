use Rattle.std.proofs.Common.{◌≡◌, ◌∙◌, subst}
use Rattle.cdi_host.specs.Asked.{machine_resolution}
use Rattle.cdi_run_tables.specs.Machine.{machine_tables}
use Rattle.cdi_run_tables.specs.declared.tables.RunTables.{RunTables}
use Rattle.cdi_runtime.specs.Refusals.{resolved_refusal}
use Rattle.cdi_runtime.proofs.Refusing.{refused_known}
use Rattle.cdi_runtime.proofs.refusal.refuses_use.Goals as goal

pub returns-clause-refusal : goal.returns-clause-refusal
returns-clause-refusal c =
    let u = c.args.used.now in
    let r = machine_resolution c.in-Some.resolution in
    subst (λ (t : RunTables). c.refuses_resolved.result ≡ resolved_refusal (machine_tables t) r u.purpose) c.in-Some.ensures.kept c.refuses_resolved.ensures
    ∙ refused_known (machine_tables c.args.tables.now) u r c.in-Some.ensures.told
