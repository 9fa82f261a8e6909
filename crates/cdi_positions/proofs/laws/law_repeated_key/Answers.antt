use Rattle.cdi_positions.proofs.Repeating.{none-repeated}
use Rattle.cdi_positions.proofs.laws.law_repeated_key.Goals as goal

pub returns : goal.returns
returns c = none-repeated
