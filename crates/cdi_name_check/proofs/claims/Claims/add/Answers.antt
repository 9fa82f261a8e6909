use Rattle.std.proofs.Common.{◌∙◌}
use Rattle.cdi_name_check.specs.Claims.{has}
use Rattle.cdi_name_check.proofs.ClaimSets.{one_more}
use Rattle.cdi_name_check.proofs.claims.Claims.add.Goals as goal

pub returns-in_ok-insert : goal.returns-in_ok-insert
returns-in_ok-insert c = rw c.in-Some.is (record {
  same = λ q. c.in_ok-insert.ensures.updates.0 q ∙ one_more c.in-Some.claim q (has c.args.self.now q);
})
