use Rattle.std.proofs.Common.{refl, sym, arith}
use Rattle.cdi_machine.specs.Commands.{invalidate}
use Rattle.cdi_frames.proofs.CommandSteps.{invalidate_used, invalidate_unused}
use Rattle.cdi_events.proofs.ContextSteps.{begins_alone}
use Rattle.cdi_steps.proofs.Made.{ends, settled}
use Rattle.cdi_frames.proofs.step.commands.invalidate.Goals as goal

pub returns-then-is_used-clause-step : goal.returns-then-is_used-clause-step
returns-then-is_used-clause-step g c =
    rw (c.null.ensures, c.mark.ensures) (ends (invalidate_used (g.T.Tables.tables c.args._tables.now) c.args.session (g.W.Contents.world c.args.world.now) (sym c.if-is_used.ensures)) (omega arith) refl)

pub returns-clause-step : goal.returns-clause-step
returns-clause-step g c =
    rw (c.stand_in_session.ensures, c.mark-2.ensures)
    (settled {p = invalidate c.args.session} refl (begins_alone (g.T.Tables.tables c.args._tables.now) (rw c.in_ok-clone.ensures.cases at c.in_ok-next.ensures) (invalidate_unused (g.T.Tables.tables c.args._tables.now) c.args.session (g.W.Contents.world c.args.world.now) (sym c.if-is_used.ensures)) refl) (omega arith))
