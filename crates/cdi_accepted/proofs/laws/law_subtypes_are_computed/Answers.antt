-- The law is proved in Subtypes.
use Rattle.cdi_accepted.proofs.Subtypes.{subtypes_are}
use Rattle.cdi_accepted.proofs.laws.law_subtypes_are_computed.Goals as goal

pub returns : goal.returns
returns c = subtypes_are
