use Rattle.std.proofs.Common.{sym, subst}
use Rattle.cdi_run_tables.specs.Asked.{IsTold}
use Rattle.cdi_run_tables.proofs.Remembered.{told_after}
use Rattle.cdi_run_tables.proofs.asked.CommandAnswers.remember.Goals as goal

pub returns-in-Ok : goal.returns-in-Ok
returns-in-Ok c = λ t all is hash a there.
    let told : IsTold t c.in-Ok.answer = subst (IsTold t) (sym c.in-Ok.ensures) is in
    told_after t c.args.self.now.answers c.args.hash c.in-Ok.answer all told c.put.result c.put.new.self c.put.ensures.entries c.put.ensures.err hash a there
