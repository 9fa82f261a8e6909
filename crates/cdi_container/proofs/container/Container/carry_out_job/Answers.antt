use Rattle.std.proofs.Common.{subst}
use Rattle.cdi_steps.specs.Words.{command_of}
use Rattle.cdi_container.specs.Standing.{state_of, tables_of}
use Rattle.cdi_container.specs.Turns.{KeepsOn}
use Rattle.cdi_container.specs.declared.left.Progress.TheVariants as progresses
use Rattle.cdi_container.proofs.TurnCounts.{same_then}
use Rattle.cdi_container.proofs.Turning.{by_turns}
use Rattle.cdi_container.proofs.container.Container.carry_out_job.Goals as goal

pub turns-init : goal.turns-init
turns-init g c = record {
  so_far = c.begin_admitted-left.ensures.left;
  known = c.begin_admitted-left.ensures.known;
  same = c.begin_admitted-left.ensures.same;
}

pub turns-preserved : goal.turns-preserved
turns-preserved g c =
    let old = c.args.self.now in
    let goes =
    subst (λ tables. KeepsOn tables (g.D.Driver.legal c.turns.self.runtime.driver) c.turns.left (state_of c.turns.self) (progresses.Running c.in-Running.rest) (state_of c.go_on.new.self))
    c.turns.invariant.same.parts.tables c.in-Running.ensures.goes in
    record {
      so_far = by_turns (tables_of old) c.turns.invariant.same.parts.legal (state_of old) (state_of c.turns.self) (state_of c.go_on.new.self) (command_of c.args.job) c.turns.left (progresses.Running c.in-Running.rest) c.turns.invariant.so_far goes;
      known = c.in-Running.ensures.known;
      same = same_then c.turns.invariant.same c.go_on.ensures.same;
    }

pub returns-in-Finished-clause-answers : goal.returns-in-Finished-clause-answers
returns-in-Finished-clause-answers g c =
    let old = c.args.self.now in
    let goes =
    subst (λ tables. KeepsOn tables (g.D.Driver.legal c.turns.self.runtime.driver) c.turns.left (state_of c.turns.self) (progresses.Finished c.in-Finished.reply) (state_of c.go_on.new.self))
    c.turns.invariant.same.parts.tables c.in-Finished.ensures.goes in
    by_turns (tables_of old) c.turns.invariant.same.parts.legal (state_of old) (state_of c.turns.self) (state_of c.go_on.new.self) (command_of c.args.job) c.turns.left (progresses.Finished c.in-Finished.reply) c.turns.invariant.so_far goes

pub returns-in-Finished-clause-same : goal.returns-in-Finished-clause-same
returns-in-Finished-clause-same g c = same_then c.turns.invariant.same c.go_on.ensures.same
