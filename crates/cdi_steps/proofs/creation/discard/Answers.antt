use Rattle.std.proofs.Common.{◌∙◌, arith}
use Rattle.cdi_steps.proofs.Changes.{discard_invocations}
use Rattle.cdi_steps.proofs.InjectionSteps.{discard_checked, discard_leads}
use Rattle.cdi_steps.proofs.Made.{ends}
use Rattle.cdi_steps.proofs.creation.discard.Goals as goal

pub returns-then-checked : goal.returns-then-checked
returns-then-checked g c =
    rw (c.raised.ensures, c.discard.ensures)
    (ends (discard_checked (g.T.Tables.tables c.args.tables.now) c.args.number c.args.exception (g.W.Contents.world c.args.world.now) (c.is_checked-checked.ensures ∙ c.if-checked.true)) (omega arith) (discard_invocations c.args.number (g.W.Contents.world c.args.world.now)))

pub returns : goal.returns
returns g c =
    rw (c.ended.ensures, c.discard.ensures)
    (ends (discard_leads (g.T.Tables.tables c.args.tables.now) c.args.number c.args.exception (g.W.Contents.world c.args.world.now) (c.is_checked-checked.ensures ∙ c.if-checked.false)) (omega arith) (discard_invocations c.args.number (g.W.Contents.world c.args.world.now)))
