use Rattle.std.proofs.Common.{arith}
use Rattle.cdi_steps.proofs.Changes.{keep_invoked}
use Rattle.cdi_frames.proofs.ActSteps.{keep_leads}
use Rattle.cdi_frames.proofs.step.acts.keep.Goals as goal

pub returns-clause-step : goal.returns-clause-step
returns-clause-step g c =
    rw c.in_ok-keep.ensures.ok (record {
      settles = keep_leads (g.T.Tables.tables c.args._tables.now) c.args.running.value c.in_ok-running.running c.args.key c.args.value (g.W.Contents.world c.args.world.now) c.in_ok-running.ensures;
      lowers = omega arith;
      known = λ h. rw c.in_ok-running.ensures c.requires;
      invoked = keep_invoked c.args.key c.args.value;
      quiet = tt;
    })
