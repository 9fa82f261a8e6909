use Rattle.std.proofs.Common.{◌∙◌, sym, true, false}
use Rattle.cdi_frames.proofs.CommandSteps.{begin_moves}
use Rattle.cdi_frames.proofs.step.commands.begin_request.Goals as goal

pub returns-then-not-branch-clause-step : goal.returns-then-not-branch-clause-step
returns-then-not-branch-clause-step g c =
    rw (c.opened.ensures, c.in_ok-begin_request.ensures.begun, c.into_inner-request.ensures)
    (begin_moves (g.T.Tables.tables c.args._tables.now) c.args.names false (g.W.Contents.world c.args.world.now) (sym c.if-not-branch.true ∙ (rw c.into_inner-request.ensures at c.in_ok-begin_request.ensures.opens)))

pub returns-clause-step : goal.returns-clause-step
returns-clause-step g c =
    rw (c.in_ok-begin_request.ensures.begun, c.into_inner-request.ensures)
    (begin_moves (g.T.Tables.tables c.args._tables.now) c.args.names true (g.W.Contents.world c.args.world.now) (sym c.if-not-branch.false ∙ (rw c.into_inner-request.ensures at c.in_ok-begin_request.ensures.opens)))
