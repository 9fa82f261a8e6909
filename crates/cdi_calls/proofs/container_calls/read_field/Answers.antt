use Rattle.std.proofs.Common.{refl, sym, ◌∙◌, arith}
use Rattle.cdi_calls.proofs.CallSteps.{read_missing, read_absent, read_there}
use Rattle.cdi_steps.specs.Leads.{Comes}
use Rattle.cdi_steps.proofs.Made.{ends}
use Rattle.cdi_calls.proofs.container_calls.read_field.Goals as goal

pub returns-in_default : goal.returns-in_default
returns-in_default g c = rw c.missing.ensures (ends (Comes.same (read_missing (g.T.Tables.tables c.args._tables.now) c.args.number c.args.field (g.W.Contents.world c.args.world.now) c.in_default.ensures)) (omega arith) refl)

pub returns-then-not-has : goal.returns-then-not-has
returns-then-not-has g c =
    rw c.missing-then-not-has.ensures (ends (Comes.same (read_absent (g.T.Tables.tables c.args._tables.now) c.args.number c.args.field c.in-Some.instance.now (g.W.Contents.world c.args.world.now) c.in-Some.ensures (sym c.if-not-has.ensures))) (omega arith) refl)

pub returns : goal.returns
returns g c =
    rw (c.given.ensures, c.in_ok-value.ensures.cases ∙ c.get.ensures) (ends (Comes.same (read_there (g.T.Tables.tables c.args._tables.now) c.args.number c.args.field c.in-Some.instance.now (g.W.Contents.world c.args.world.now) c.in-Some.ensures (sym c.if-not-has.ensures))) (omega arith) refl)
