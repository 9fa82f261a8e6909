-- By the members of the set.
use Rattle.cdi_accepted.proofs.Sets.{have_sets}
use Rattle.cdi_accepted.proofs.laws.law_beans_have_sets.Goals as goal

pub returns : goal.returns
returns c = λ names b. have_sets names b.qualifiers
