use Rattle.std.proofs.Common.{refl, arith}
use Rattle.cdi_steps.proofs.CreationSteps.{intercept_missing, intercept_last, intercept_leads, is_named, number_below}
use Rattle.cdi_steps.proofs.Made.{ends, leaves_alone}
use Rattle.cdi_steps.proofs.creation.intercept.Goals as goal

pub returns-in_default : goal.returns-in_default
returns-in_default g c =
    rw c.missing.ensures (ends (intercept_missing (g.T.Tables.tables c.args.tables.now) c.args.interceptor c.args.intercepted (g.W.Contents.world c.args.world.now) c.in_default.ensures) (omega arith) refl)

pub returns-in_default-next_number : goal.returns-in_default-next_number
returns-in_default-next_number g c =
    let there = is_named (g.T.Tables.tables c.args.tables.now) ((g.T.Tables.tables c.args.tables.now).interceptor c.args.interceptor) c.in-Some.name c.in-Some.ensures in
    rw c.cut.ensures (ends (intercept_last (g.T.Tables.tables c.args.tables.now) c.args.interceptor c.args.intercepted c.in-Some.name (g.W.Contents.world c.args.world.now) there c.in_default-next_number.ensures) (omega arith) refl)

pub returns : goal.returns
returns g c =
    let there = is_named (g.T.Tables.tables c.args.tables.now) ((g.T.Tables.tables c.args.tables.now).interceptor c.args.interceptor) c.in-Some.name c.in-Some.ensures in
    leaves_alone (intercept_leads (g.T.Tables.tables c.args.tables.now) c.args.interceptor c.args.intercepted c.in-Some.name c.in-Some-next_number.number c.in_ok-new.field-0 (g.W.Contents.world c.args.world.now) there c.in-Some-next_number.ensures c.in_ok-new.ensures.ok) (omega arith) refl
    (number_below c.in-Some-next_number.number (g.W.Contents.world c.args.world.now) c.in-Some-next_number.ensures) refl
