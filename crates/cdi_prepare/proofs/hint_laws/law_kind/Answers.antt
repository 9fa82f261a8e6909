use Rattle.cdi_prepare.proofs.KindLemmas.{bytes_fit}
use Rattle.cdi_prepare.proofs.hint_laws.law_kind.Goals as goal

pub returns : goal.returns
returns c = bytes_fit
