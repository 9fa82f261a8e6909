-- The law is proved in Planned.
use Rattle.cdi_accepted.proofs.Planned.{invokes_planned, lives_planned}
use Rattle.cdi_accepted.proofs.laws.law_chains_planned.Goals as goal

pub returns-clause-members : goal.returns-clause-members
returns-clause-members c = invokes_planned

pub returns-clause-lifecycle : goal.returns-clause-lifecycle
returns-clause-lifecycle c = lives_planned
