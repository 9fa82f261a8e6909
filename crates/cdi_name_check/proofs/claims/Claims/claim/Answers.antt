use Rattle.cdi_name_check.proofs.ClaimSets.{adds_both}
use Rattle.cdi_name_check.proofs.claims.Claims.claim.Goals as goal

pub returns-then-name_stands-clause-added : goal.returns-then-name_stands-clause-added
returns-then-name_stands-clause-added c = adds_both _ _ _ c.args.self.now c.add.new.self c.add-2.new.self c.claims_of.ensures c.in_ok-add.ensures c.in_ok-add-2.ensures

pub returns-else-name_stands-clause-added : goal.returns-else-name_stands-clause-added
returns-else-name_stands-clause-added c = adds_both _ _ _ c.args.self.now c.add.new.self c.add-2.new.self c.claims_of.ensures c.in_ok-add.ensures c.in_ok-add-2.ensures
