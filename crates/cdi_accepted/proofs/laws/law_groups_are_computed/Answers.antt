-- The law is proved in Heard.
use Rattle.cdi_accepted.proofs.Heard.{groups_are}
use Rattle.cdi_accepted.proofs.laws.law_groups_are_computed.Goals as goal

pub returns : goal.returns
returns c = groups_are
