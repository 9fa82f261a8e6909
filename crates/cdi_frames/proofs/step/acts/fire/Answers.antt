use Rattle.std.proofs.Common.{arith}
use Rattle.cdi_frames.proofs.ActSteps.{fire_leads}
use Rattle.cdi_frames.proofs.step.acts.fire.Goals as goal

pub returns : goal.returns
returns g c =
    record {
      settles = fire_leads (g.T.Tables.tables c.args._tables.now) c.args.running c.in_ok-new.field-0 c.args.class c.args.qualifiers c.args.value (g.W.Contents.world c.args.world.now) c.in_ok-new.ensures.ok;
      lowers = omega arith;
      known = λ h. (tt, c.requires);
      invoked = λ h. h;
      quiet = tt;
    }
