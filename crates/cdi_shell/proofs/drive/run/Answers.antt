use Rattle.cdi_shell.proofs.Serving.{formed_with}
use Rattle.cdi_shell.proofs.drive.run.Goals as goal

pub play_scripts-requires-clause-formed : goal.play_scripts-requires-clause-formed
play_scripts-requires-clause-formed g c = formed_with c.args.deployment.now _ c.in-Ok.ensures.ok
