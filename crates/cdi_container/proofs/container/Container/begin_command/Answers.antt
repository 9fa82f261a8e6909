use Rattle.std.proofs.Common.{sym, subst}
use Rattle.cdi_steps.specs.Words.{command_of}
use Rattle.cdi_container.specs.Standing.{state_of, tables_of}
use Rattle.cdi_container.specs.Turns.{CanBegin, IsLeftOf}
use Rattle.cdi_container.proofs.TurnCounts.{same_then}
use Rattle.cdi_container.proofs.container.Container.begin_command.Goals as goal

pub begin_admitted-requires : goal.begin_admitted-requires
begin_admitted-requires g c =
    let told = c.in-Ok.ensures.admits in
    subst (λ s. CanBegin (tables_of s) (state_of s) c.in-Ok.job) (sym c.in-Ok.ensures.kept) told.1

pub returns-in-Ok-clause-begins : goal.returns-in-Ok-clause-begins
returns-in-Ok-clause-begins g c =
    let told = c.in-Ok.ensures.admits in
    let t = state_of c.begin_admitted.new.self in
    let left =
    subst (λ s. IsLeftOf (tables_of s) (g.D.Driver.legal s.runtime.driver) (state_of s) (command_of c.in-Ok.job) c.begin_admitted.result t) c.in-Ok.ensures.kept c.begin_admitted.ensures.left in
    subst (λ k. IsLeftOf (tables_of c.args.self.now) (g.D.Driver.legal c.args.self.now.runtime.driver) (state_of c.args.self.now) k c.begin_admitted.result t) told.0 left

pub returns-in-Ok-clause-same : goal.returns-in-Ok-clause-same
returns-in-Ok-clause-same g c = same_then c.admit.ensures.same c.begin_admitted.ensures.same

pub returns-in-Err-Starves-clause-begins : goal.returns-in-Err-Starves-clause-begins
returns-in-Err-Starves-clause-begins g c =
    let told = rw c.in-Err-Starves.field-0-is at c.in-Err-Starves.ensures.admits in IsLeftOf.starves told.0 told.1

pub returns-in-Err-Refused-clause-begins : goal.returns-in-Err-Refused-clause-begins
returns-in-Err-Refused-clause-begins g c = rw c.in-Err-Refused.field-0-is at c.in-Err-Refused.ensures.admits
