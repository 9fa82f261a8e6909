use Rattle.std.proofs.Common.{rules, ◌≡◌, ◌∙◌, List, Option, ap₂}
use Rattle.std.specs.Option.{option_copied}
use Rattle.cdi_pictures.specs.Pictures.{picture}
use Rattle.cdi_problems.specs.declared.problem.Problem.{Problem}
use Rattle.cdi_resolve.specs.declared.bean_tables.BeanTables.{BeanTables}
use Rattle.cdi_program.proofs.drawing.review_drawing.Goals as goal

pub returns : goal.returns
returns c =
    let d = c.args.review.deployment in
    let tables_are : option_copied c.as_ref-tables.result ≡ c.in_ok-made.made = search rules in
    let problems_are : c.as_slice.result.now ≡ c.args.review.problems = search rules in
    record {
      tables = c.in_ok-made.made;
      are_tables = search rules;
      text = c.in_ok-picture.ensures
          ∙ ap₂ (λ (tables : Option BeanTables) (problems : List Problem). picture (record { deployment = d; tables = tables; problems = problems })) tables_are problems_are;
      is_refused = search rules;
    }
