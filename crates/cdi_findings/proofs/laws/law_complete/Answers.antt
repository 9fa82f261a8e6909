use Rattle.cdi_findings.proofs.Complete.{complete}
use Rattle.cdi_findings.proofs.laws.law_complete.Goals as goal

pub returns : goal.returns
returns c = complete
