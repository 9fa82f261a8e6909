use Rattle.std.proofs.Common.{arith}
use Rattle.cdi_steps.proofs.Changes.{exit_invoked}
use Rattle.cdi_steps.proofs.InjectionSteps.{completed_leads}
use Rattle.cdi_steps.proofs.creation.completed.Goals as goal

pub returns : goal.returns
returns g c =
    rw c.exit.ensures (record {
      leads = completed_leads (g.T.Tables.tables c.args._tables.now) c.args.number c.args.component c.args.left c.args._given (g.W.Contents.world c.args.world.now);
      lowers = omega arith;
      known = λ h. c.requires;
      invoked = exit_invoked;
      quiet = tt;
    })
