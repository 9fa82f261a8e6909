use Rattle.std.proofs.Common.{◌-◌, ◌<◌, refl, sym, arith}
use Rattle.cdi_steps.proofs.InvocationSteps.{run_next_last, run_next_first, body_known, others_known}
use Rattle.cdi_steps.proofs.invocations.run_next.Goals as goal

pub returns-then-bodies-eq1 : goal.returns-then-bodies-eq1
returns-then-bodies-eq1 g c =
    rw c.into_inner-bodies.ensures (record {
      settles = run_next_last (g.T.Tables.tables c.args._tables.now) c.args.bodies.value c.in-Some.code.now (c.len.result - c.args.bodies.value.left) c.requires (rw (c.len.ensures, c.into_inner-bodies.ensures) refl) (sym (rw c.into_inner-bodies.ensures at c.in-Some.ensures)) c.in_ok-running.running c.args.bodies.value.role (g.W.Contents.world c.args.world.now) (rw c.into_inner-bodies.ensures at c.if-bodies-eq1.true) refl (rw c.into_inner-bodies.ensures at c.in_ok-running.ensures);
      lowers = omega arith;
      known = λ h. (body_known (g.T.Tables.tables c.args._tables.now) c.args.bodies.value c.in-Some.code.now (c.len.result - c.args.bodies.value.left) c.requires (rw (c.len.ensures, c.into_inner-bodies.ensures) refl) (sym (rw c.into_inner-bodies.ensures at c.in-Some.ensures)) (rw c.into_inner-bodies.ensures at c.in_ok-running.ensures), tt);
      invoked = λ h. h;
      quiet = tt;
    })

pub returns : goal.returns
returns g c =
    let many : 1 < c.args.bodies.value.left = omega (arith, c.requires.some, rw c.into_inner-bodies.ensures at c.if-bodies-eq1.false) in
    record {
      settles = run_next_first (g.T.Tables.tables c.args._tables.now) c.args.bodies.value c.in-Some.code.now (c.len.result - c.args.bodies.value.left) c.requires (rw (c.len.ensures, c.into_inner-bodies.ensures) refl) (sym (rw c.into_inner-bodies.ensures at c.in-Some.ensures)) c.in_ok-running.running c.in_ok-new.field-0 (g.W.Contents.world c.args.world.now) many (rw c.into_inner-bodies.ensures at c.in_ok-new.ensures.ok) (rw c.into_inner-bodies.ensures at c.in_ok-running.ensures);
      lowers = omega arith;
      known = λ h. (body_known (g.T.Tables.tables c.args._tables.now) c.args.bodies.value c.in-Some.code.now (c.len.result - c.args.bodies.value.left) c.requires (rw (c.len.ensures, c.into_inner-bodies.ensures) refl) (sym (rw c.into_inner-bodies.ensures at c.in-Some.ensures)) (rw c.into_inner-bodies.ensures at c.in_ok-running.ensures), others_known (g.T.Tables.tables c.args._tables.now) c.args.bodies.value c.in-Some.code.now (c.len.result - c.args.bodies.value.left) c.requires (rw (c.len.ensures, c.into_inner-bodies.ensures) refl) (sym (rw c.into_inner-bodies.ensures at c.in-Some.ensures)) many (rw c.into_inner-bodies.ensures at c.in_ok-new.ensures.ok));
      invoked = λ h. h;
      quiet = tt;
    }
