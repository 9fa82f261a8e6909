use Rattle.std.proofs.Common.{◌∙◌, ◌<◌, ◌^◌, ap, length, sym, subst}
use Rattle.std.proofs.lemmas.List.{length-map}
use Rattle.cdi_machine.specs.Told.{step_told}
use Rattle.cdi_run_tables.proofs.Creating.{few_injections}
use Rattle.cdi_run_tables.proofs.tables.RunTables.interceptor_steps.Goals as goal

pub overflow_cast-result : goal.overflow_cast-result
overflow_cast-result c =
    let t = c.args.self.now in
    let same = sym (length-map c.steps_at.result.now step_told) ∙ ap length c.steps_at.ensures.tells in
    record { fits = subst (λ n. n < 2 ^ 32) (sym same) (few_injections t c.requires c.args.place) }
