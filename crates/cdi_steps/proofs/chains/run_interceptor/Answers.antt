use Rattle.std.proofs.Common.{refl, arith}
use Rattle.cdi_steps.proofs.ChainSteps.{no_invocation, no_method, no_instance, run_first, method_known}
use Rattle.cdi_steps.proofs.Made.{ends}
use Rattle.cdi_steps.proofs.chains.run_interceptor.Goals as goal

pub returns-in_default : goal.returns-in_default
returns-in_default g c =
    rw c.missing.ensures (ends (no_invocation (g.T.Tables.tables c.args.tables.now) c.args.interceptor c.args.others (g.W.Contents.world c.args.world.now) c.in_default.ensures) (omega arith) refl)

pub returns-in_default-interceptor_method : goal.returns-in_default-interceptor_method
returns-in_default-interceptor_method g c =
    rw c.missing-in_default-interceptor_method.ensures (ends (no_method (g.T.Tables.tables c.args.tables.now) c.args.interceptor c.args.others c.in-Some.invocation.now (g.W.Contents.world c.args.world.now) c.in-Some.ensures
    (rw c.role-role.ensures at c.in_default-interceptor_method.ensures)) (omega arith) refl)

pub returns-in_default-instance_of : goal.returns-in_default-instance_of
returns-in_default-instance_of g c =
    rw c.missing-in_default-instance_of.ensures (ends (no_instance (g.T.Tables.tables c.args.tables.now) c.args.interceptor c.args.others c.in-Some.invocation.now (g.W.Contents.world c.args.world.now) c.in-Some.ensures
    c.in-Some-interceptor_method.code (rw c.role-role.ensures at c.in-Some-interceptor_method.ensures) (rw c.target.ensures at c.in_default-instance_of.ensures)) (omega arith) refl)

pub returns : goal.returns
returns g c =
    record {
      leads = run_first (g.T.Tables.tables c.args.tables.now) c.args.interceptor c.args.others c.in-Some.invocation.now (g.W.Contents.world c.args.world.now) c.in-Some.ensures
          c.in-Some-interceptor_method.code (rw c.role-role.ensures at c.in-Some-interceptor_method.ensures) c.in-Some-instance_of.number c.in_ok-running.running c.role-role.result
          (rw c.target.ensures at c.in-Some-instance_of.ensures) c.role-role.ensures (rw c.parameters.ensures at c.in_ok-running.ensures);
      lowers = omega arith;
      known = λ h. (method_known (g.T.Tables.tables c.args.tables.now) c.args.interceptor c.role-role.result c.in-Some-interceptor_method.code c.in-Some-interceptor_method.ensures (rw c.in_ok-running.ensures refl), tt);
      invoked = λ h. h;
      quiet = tt;
    }
