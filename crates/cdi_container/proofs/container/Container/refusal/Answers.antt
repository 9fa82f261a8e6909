use Rattle.std.proofs.Common.{◌≡◌, sym, subst, None}
use Rattle.cdi_machine.specs.Container.{refusal}
use Rattle.cdi_steps.specs.Known.{JobTellsRightly, KnownJob}
use Rattle.cdi_steps.specs.Words.{command_of}
use Rattle.cdi_container.specs.Standing.{tables_of, state_of}
use Rattle.cdi_container.specs.States.{machine_state}
use Rattle.cdi_container.proofs.container.Container.refusal.Goals as goal

pub refusal-requires : goal.refusal-requires
refusal-requires g c = subst (λ s. JobTellsRightly (tables_of s) c.args.job.now) (sym c.self.view_is) c.requires

pub returns-clause-refusal : goal.returns-clause-refusal
returns-clause-refusal g c =
    let told = rw c.is_some.ensures at c.refusal.ensures.refusal in
    subst (λ s. c.refusal.result ≡ refusal (tables_of s) (machine_state (state_of s)) (command_of c.args.job.now)) c.self.view_is told

pub returns-clause-rightly : goal.returns-clause-rightly
returns-clause-rightly g c =
    subst (λ s. JobTellsRightly (tables_of s) c.refusal.new.job) c.self.view_is c.refusal.ensures.rightly

pub returns-clause-known : goal.returns-clause-known
returns-clause-known g c =
    subst (λ s. c.refusal.result ≡ None → KnownJob (tables_of s) (state_of s).world c.refusal.new.job) c.self.view_is c.refusal.ensures.known
