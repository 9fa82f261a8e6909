-- The law is proved in Written.
use Rattle.cdi_accepted.proofs.Written.{written_are}
use Rattle.cdi_accepted.proofs.laws.law_written_are_computed.Goals as goal

pub returns : goal.returns
returns c = written_are
