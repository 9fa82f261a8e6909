use Rattle.cdi_steps.proofs.Results.{map_ok}
use Rattle.cdi_frames.proofs.Hearing.{run_hears}
use Rattle.cdi_frames.proofs.run.run.Goals as goal

pub finish-requires : goal.finish-requires
finish-requires g c =
    record {
      drives = c.requires.drives;
      known = record { frames = rw c.start-stack.ensures.frames tt; pending = rw c.start-stack.ensures.pending c.requires.known; invoked = c.requires.invoked };
    }

pub returns-clause-ran : goal.returns-clause-ran
returns-clause-ran g c =
    rw (c.start-stack.ensures.frames, c.start-stack.ensures.pending) at c.finish.ensures.ran

pub returns-clause-hears : goal.returns-clause-hears
returns-clause-hears g c =
    map_ok c.finish.result (λ o h. run_hears c.start-stack.result c.args.task o (g.W.Contents.world c.args.world.now) (g.W.Contents.world c.finish.new.world) c.start-stack.ensures.pending h) c.finish.ensures.hears
