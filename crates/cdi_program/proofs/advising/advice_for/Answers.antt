use Rattle.std.proofs.lemmas.Result.{IfOk-weaker}
use Rattle.cdi_prepare.specs.Ready.{readied_in}
use Rattle.cdi_program.proofs.Advised.{advised, unadvised}
use Rattle.cdi_program.proofs.advising.advice_for.Goals as goal

pub returns-in-Ok-Some : goal.returns-in-Ok-Some
returns-in-Ok-Some c =
    let reviews = rw c.in-Ok-Some.field-0-is at c.in-Ok-Some.ensures in
    IfOk-weaker c.review_advice.result _ _ (λ advice told. advised c.args.file.now c.args.bytes.now (readied_in c.args.bytes.now) _ reviews advice told) c.review_advice.ensures

pub returns-in-Ok-None : goal.returns-in-Ok-None
returns-in-Ok-None c =
    let reviews = rw c.in-Ok-None.field-0-is at c.in-Ok-None.ensures in
    IfOk-weaker c.fault_advice.result _ _ (λ advice told. unadvised c.args.file.now c.args.bytes.now (readied_in c.args.bytes.now) reviews advice told) c.fault_advice.ensures
