use Rattle.cdi_shell.proofs.OneOutput.{one_output}
use Rattle.cdi_shell.proofs.drive.drive.Goals as goal

pub returns : goal.returns
returns g c =
    record {
      drives = c.run.ensures.drives;
      blames = c.run.ensures.blames;
      passed_on = c.run.ensures.passed_on;
      only = λ input held s e settled settled' u u' h h' d. one_output c.args.settings c.args.deployment.now input held _ s c.run.result e settled settled' u u' h h' c.run.ensures.drives d;
    }
