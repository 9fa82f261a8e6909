use Rattle.std.proofs.Common.{◌≡◌, length}
use Rattle.cdi_steps.specs.Driving.{Narrows}
use Rattle.cdi_frames.specs.Stacks.{stack_after}
use Rattle.cdi_frames.proofs.Turning.{IsUnderWay, turn_load}
use Rattle.cdi_frames.proofs.run.turn.Given as goal

abbrev pub invariant-steps : goal.invariant-steps
invariant-steps g l = record {
  narrows : Narrows (g.D.Driver.legal l.fn.driver) (g.D.Driver.legal l.driver) (g.D.Driver.may_end l.fn.driver) (g.D.Driver.may_end l.driver) (g.D.Driver.knows l.fn.driver) (g.D.Driver.knows l.driver);
  here : IsUnderWay (g.T.Tables.tables l.fn.tables) (g.D.Driver.legal l.fn.driver) (g.D.Driver.heard l.fn.driver) l.fn.most l.fn.stack (g.W.Contents.world l.fn.world) (stack_after l.frames l.next) (g.D.Driver.heard l.driver) (g.W.Contents.world l.world);
  first : l.first ≡ length (g.W.Contents.world l.fn.world).trace;
}

abbrev pub decreases-steps : goal.decreases-steps
decreases-steps g l = turn_load l.frames l.next (g.W.Contents.world l.world)
