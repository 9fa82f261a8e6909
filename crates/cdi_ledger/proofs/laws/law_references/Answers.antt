use Rattle.cdi_ledger.proofs.Referred.{refers_own}
use Rattle.cdi_ledger.proofs.BodyReferences.{locals_are_own}
use Rattle.cdi_ledger.proofs.laws.law_references.Goals as goal

pub returns-clause-own : goal.returns-clause-own
returns-clause-own g c = λ tables. refers_own tables (g.D.Driver.legal c.args.driver.now)

pub returns-clause-locals : goal.returns-clause-locals
returns-clause-locals g c = λ tables. locals_are_own tables (g.D.Driver.legal c.args.driver.now)
