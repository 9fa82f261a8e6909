use Rattle.std.proofs.Common.{refl, sym, arith, ◌-◌}
use Rattle.cdi_machine.specs.Told.{point_told, step_told}
use Rattle.cdi_steps.specs.Parameters.{constructs}
use Rattle.cdi_steps.proofs.Heads.{is_there}
use Rattle.cdi_steps.proofs.Made.{leaves_alone}
use Rattle.cdi_steps.proofs.ParameterSteps.{refer_nothing, refer_many, refer_missing, refer_proxy, refer_dependent, after_step_invoked, next_parameters, still_parameters}
use Rattle.cdi_calls.proofs.parameters.refer.Goals as goal

pub returns-in-Nothing-clause-step : goal.returns-in-Nothing-clause-step
returns-in-Nothing-clause-step g c =
    rw (c.fail.ensures.next, c.fail.ensures.world, c.deref.ensures, c.name.ensures.number) (record {
      leads = refer_nothing (g.T.Tables.tables c.args.tables.now) c.args.parameters (step_told c.args.step.now) (point_told c.args.point.now) (g.W.Contents.world c.args.world.now) c.requires.next (sym (rw c.in-Nothing.is at c.requires.resolved));
      lowers = omega arith;
      known = λ h. (tt, tt);
      invoked = after_step_invoked (g.T.Tables.tables c.args.tables.now) (constructs (step_told c.args.step.now));
      quiet = tt;
    })

pub returns-in-Many-clause-step : goal.returns-in-Many-clause-step
returns-in-Many-clause-step g c =
    rw (c.fail-in-Many.ensures.next, c.fail-in-Many.ensures.world, c.deref.ensures, c.name-in-Many.ensures.number) (record {
      leads = refer_many (g.T.Tables.tables c.args.tables.now) c.args.parameters (step_told c.args.step.now) (point_told c.args.point.now) (g.W.Contents.world c.args.world.now) c.requires.next (sym (rw c.in-Many.is at c.requires.resolved));
      lowers = omega arith;
      known = λ h. (tt, tt);
      invoked = after_step_invoked (g.T.Tables.tables c.args.tables.now) (constructs (step_told c.args.step.now));
      quiet = tt;
    })

pub returns-in_default-clause-step : goal.returns-in_default-clause-step
returns-in_default-clause-step g c =
    rw (c.fail-in_default.ensures.next, c.fail-in_default.ensures.world, c.deref.ensures, c.name-in_default.ensures.number) (record {
      leads = refer_missing (g.T.Tables.tables c.args.tables.now) c.args.parameters (step_told c.args.step.now) (point_told c.args.point.now) (g.W.Contents.world c.args.world.now) c.requires.next c.in-One.bean (sym (rw c.in-One.is at c.requires.resolved)) c.in_default.ensures;
      lowers = omega arith;
      known = λ h. (tt, tt);
      invoked = after_step_invoked (g.T.Tables.tables c.args.tables.now) (constructs (step_told c.args.step.now));
      quiet = tt;
    })

pub returns-then-is_normal-clause-step : goal.returns-then-is_normal-clause-step
returns-then-is_normal-clause-step g c =
    let e = rw c.behind_next-parameters.ensures.next at c.in_ok-parameters.ensures in
    leaves_alone (refer_proxy (g.T.Tables.tables c.args.tables.now) c.args.parameters (step_told c.args.step.now) (point_told c.args.point.now) (g.W.Contents.world c.args.world.now) c.requires.next c.in-One.bean (sym (rw c.in-One.is at c.requires.resolved)) c.in-Some.head (is_there ((g.T.Tables.tables c.args.tables.now).bean c.in-One.bean) c.in-Some.head c.in-Some.ensures) c.if-is_normal.ensures c.in_ok-parameters.parameters e) (rw e (omega (arith, c.requires.next.some, c.behind_next-parameters.ensures.few))) refl (still_parameters (g.T.Tables.tables c.args.tables.now) c.args.parameters.value c.in_ok-parameters.parameters.value (c.args.parameters.value.remaining - 1) _ e (omega arith) (next_parameters (g.T.Tables.tables c.args.tables.now) c.args.parameters.value (step_told c.args.step.now) (point_told c.args.point.now) c.requires.next c.requires.has)) tt

pub returns-clause-step : goal.returns-clause-step
returns-clause-step g c =
    let e = c.behind_next-parameters.ensures.next in
    rw c.deref.ensures
    (leaves_alone (refer_dependent (g.T.Tables.tables c.args.tables.now) c.args.parameters (step_told c.args.step.now) (point_told c.args.point.now) (g.W.Contents.world c.args.world.now) c.requires.next c.in-One.bean (sym (rw c.in-One.is at c.requires.resolved)) c.in-Some.head (is_there ((g.T.Tables.tables c.args.tables.now).bean c.in-One.bean) c.in-Some.head c.in-Some.ensures) c.if-is_normal.ensures c.behind_next-parameters.result e) (rw e (omega (arith, c.requires.next.some, c.behind_next-parameters.ensures.few))) refl (tt, still_parameters (g.T.Tables.tables c.args.tables.now) c.args.parameters.value c.behind_next-parameters.result.value (c.args.parameters.value.remaining - 1) _ e (omega arith) (next_parameters (g.T.Tables.tables c.args.tables.now) c.args.parameters.value (step_told c.args.step.now) (point_told c.args.point.now) c.requires.next c.requires.has)) tt)
