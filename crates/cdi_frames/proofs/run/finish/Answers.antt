use Rattle.std.proofs.Common.{rules, arith}
use Rattle.std.specs.Prelude.{Ok, Err}
use Rattle.cdi_steps.proofs.Driving.{narrows_self, narrows_trans, passed_on}
use Rattle.cdi_frames.specs.Stacks.{Steps}
use Rattle.cdi_frames.specs.declared.stack.Turn.TheVariants as turned
use Rattle.cdi_frames.proofs.Sound.{ran_err}
use Rattle.cdi_frames.proofs.Stacks.{turned_after}
use Rattle.cdi_frames.proofs.Loads.{spent_less}
use Rattle.cdi_frames.proofs.Hearing.{hears_here, turns_then, failed_turn}
use Rattle.cdi_frames.proofs.run.finish.Goals as goal

pub turns-init : goal.turns-init
turns-init g c = record {
  narrows = narrows_self;
  so_far = Steps.stays;
  known = c.requires.known;
  hears = hears_here _ c.args.stack (g.W.Contents.world c.args.world.now);
}

pub returns-in_err-outcome-clause-ran : goal.returns-in_err-outcome-clause-ran
returns-in_err-outcome-clause-ran g c =
    ran_err (g.T.Tables.tables c.args.tables.now) (g.D.Driver.legal c.args.driver.now) (g.W.Contents.world c.turn.new.world) c.from_residual.result (search rules) (turned_after (g.T.Tables.tables c.args.tables.now) c.turns.invariant.narrows.legal c.args.stack c.turns.left (g.W.Contents.world c.args.world.now) (g.W.Contents.world c.turns.world) (Err c.in_err-outcome.field-0.0) (g.W.Contents.world c.turn.new.world) c.turns.invariant.so_far c.in_err-outcome.ensures.turned)

pub returns-in-Finished-clause-ran : goal.returns-in-Finished-clause-ran
returns-in-Finished-clause-ran g c = (turned_after (g.T.Tables.tables c.args.tables.now) c.turns.invariant.narrows.legal c.args.stack c.turns.left (g.W.Contents.world c.args.world.now) (g.W.Contents.world c.turns.world) (Ok (turned.Finished c.in-Finished.outcome)) (g.W.Contents.world c.turn.new.world) c.turns.invariant.so_far (rw c.in-Finished.is at c.in_ok-outcome.ensures.turned))

pub returns-in_err-outcome-clause-failed : goal.returns-in_err-outcome-clause-failed
returns-in_err-outcome-clause-failed g c =
    passed_on _ c.from_residual.result (failed_turn c.turns.invariant.hears c.in_err-outcome.ensures.failed c.turns.invariant.narrows.may_end) c.from_residual.ensures

pub returns-in-Finished-clause-hears : goal.returns-in-Finished-clause-hears
returns-in-Finished-clause-hears g c =
    turns_then (turned.Finished c.in-Finished.outcome) c.turns.invariant.hears (rw c.in-Finished.is at c.in_ok-outcome.ensures.hears)

pub turns-preserved : goal.turns-preserved
turns-preserved g c = record {
  narrows = narrows_trans c.turns.invariant.narrows c.in_ok-outcome.ensures.narrows;
  so_far = (turned_after (g.T.Tables.tables c.args.tables.now) c.turns.invariant.narrows.legal c.args.stack c.turns.left (g.W.Contents.world c.args.world.now) (g.W.Contents.world c.turns.world) (Ok (turned.Running c.in-Running.stack)) (g.W.Contents.world c.turn.new.world) c.turns.invariant.so_far (rw c.in-Running.is at c.in_ok-outcome.ensures.turned));
  known = rw c.in-Running.is at c.in_ok-outcome.ensures.known;
  hears = turns_then (turned.Running c.in-Running.stack) c.turns.invariant.hears (rw c.in-Running.is at c.in_ok-outcome.ensures.hears);
}

pub turns-smaller : goal.turns-smaller
turns-smaller g c = spent_less (omega arith) c.in_ok-outcome.ensures.grown (rw c.in-Running.is at c.in_ok-outcome.ensures.counted)
