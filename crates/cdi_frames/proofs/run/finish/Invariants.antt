use Rattle.cdi_steps.specs.Driving.{Narrows}
use Rattle.cdi_frames.specs.Hearing.{HearsTurn}
use Rattle.cdi_frames.specs.declared.stack.Turn.TheVariants as turned
use Rattle.cdi_frames.specs.Stacks.{StepsTo, KnownStack, entries_left}
use Rattle.cdi_frames.proofs.run.finish.Given as goal

abbrev pub invariant-turns : goal.invariant-turns
invariant-turns g l = record {
  narrows : Narrows (g.D.Driver.legal l.fn.driver) (g.D.Driver.legal l.driver) (g.D.Driver.may_end l.fn.driver) (g.D.Driver.may_end l.driver) (g.D.Driver.knows l.fn.driver) (g.D.Driver.knows l.driver);
  so_far : StepsTo (g.T.Tables.tables l.fn.tables) (g.D.Driver.legal l.fn.driver) l.fn.stack (g.W.Contents.world l.fn.world) l.left (g.W.Contents.world l.world);
  known : KnownStack (g.T.Tables.tables l.fn.tables) (g.W.Contents.world l.world) l.left;
  hears : HearsTurn (g.D.Driver.heard l.fn.driver) l.fn.stack (g.W.Contents.world l.fn.world) (turned.Running l.left) (g.D.Driver.heard l.driver) (g.W.Contents.world l.world);
}

abbrev pub decreases-turns : goal.decreases-turns
decreases-turns g l = entries_left (g.W.Contents.world l.world)
