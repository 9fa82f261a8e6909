use Rattle.cdi_whole.proofs.OfProducts.{reads_products}
use Rattle.cdi_whole.proofs.laws.law_reads_products.Goals as goal

pub returns : goal.returns
returns c = reads_products
