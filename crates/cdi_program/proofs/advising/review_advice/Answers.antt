use Rattle.std.proofs.Common.{rules, ◌≡◌}
use Rattle.std.proofs.lemmas.Result.{IfOk-weaker}
use Rattle.cdi_program.proofs.advising.review_advice.Goals as goal

pub returns : goal.returns
returns c =
    let deployment_is : c.in_ok-tables.tables.deployment.now ≡ c.args.review.deployment = search rules in
    let scripts_are : c.as_slice-2.result.now ≡ c.args.review.scripts = search rules in
    let problems_are : c.as_slice-3.result.now ≡ c.args.review.problems = search rules in
    IfOk-weaker c.advice_on.result _ _ (λ advice is. record {
      tables = c.in_ok-tables.tables.tables;
      are_tables = search rules;
      is_text = rw (c.subject-subject.ensures, deployment_is, scripts_are, problems_are) at is;
    }) c.advice_on.ensures
