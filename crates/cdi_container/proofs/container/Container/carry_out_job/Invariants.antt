use Rattle.std.proofs.Common.{Some}
use Rattle.cdi_frames.specs.Stacks.{entries_left}
use Rattle.cdi_steps.specs.Words.{command_of}
use Rattle.cdi_container.specs.Standing.{SameParts, state_of, tables_of}
use Rattle.cdi_container.specs.Turns.{IsLeftOf, KnownLeft}
use Rattle.cdi_container.proofs.container.Container.carry_out_job.Given as goal

abbrev pub invariant-turns : goal.invariant-turns
invariant-turns g l = record {
  so_far : IsLeftOf (tables_of l.fn.self) (g.D.Driver.legal l.fn.self.runtime.driver) (state_of l.fn.self) (command_of l.fn.job) l.left (state_of l.self);
  known : KnownLeft (tables_of l.self) (state_of l.self) (Some l.left);
  same : SameParts (g.D.Driver.legal l.fn.self.runtime.driver) (g.D.Driver.legal l.self.runtime.driver) l.fn.self l.self;
}

abbrev pub decreases-turns : goal.decreases-turns
decreases-turns g l = entries_left (state_of l.self).world
