use Rattle.cdi_whole.proofs.Counts.{refuses_counts}
use Rattle.cdi_whole.proofs.laws.law_counts_have_to_fit.Goals as goal

pub returns : goal.returns
returns c = refuses_counts
