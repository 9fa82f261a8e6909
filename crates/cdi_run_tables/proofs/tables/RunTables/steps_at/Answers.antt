use Rattle.std.proofs.Common.{[], subst}
use Rattle.std.specs.Prelude.{slice_get}
use Rattle.cdi_run_tables.specs.Index.{AreStepsOf}
use Rattle.cdi_run_tables.specs.Seen.{parts_seen}
use Rattle.cdi_run_tables.proofs.Creating.{declared_in, few_beans, none_planned, some_steps}
use Rattle.cdi_run_tables.proofs.tables.RunTables.steps_at.Goals as goal

pub returns-in-Some : goal.returns-in-Some
returns-in-Some c =
    let t = c.self.inside in
    let made = c.in-Some.steps.now in
    let there =
    subst (λ p. AreStepsOf p (declared_in p (slice_get p.tables.chains.interceptors c.args.place)) made) c.self.view_is
    (some_steps (parts_seen t.parts) t.index.interceptor_steps c.self.invariant.index.interceptor_steps c.args.place made c.in-Some.ensures) in
    record { tells = rw c.as_slice.ensures (there.tells (few_beans c.args.self.now c.requires)); resolved = rw c.as_slice.ensures there.resolved }

pub returns-in-None : goal.returns-in-None
returns-in-None c =
    let t = c.self.inside in
    let there =
    subst (λ p. AreStepsOf p (declared_in p (slice_get p.tables.chains.interceptors c.args.place)) []) c.self.view_is
    (none_planned (parts_seen t.parts) t.index.interceptor_steps c.self.invariant.index.interceptor_steps c.args.place c.in-None.ensures) in
    record { tells = there.tells (few_beans c.args.self.now c.requires); resolved = there.resolved }
