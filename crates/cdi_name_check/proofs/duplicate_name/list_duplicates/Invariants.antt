use Rattle.std.proofs.Common.{take}
use Rattle.cdi_name_check.specs.Claims.{HasClaims}
use Rattle.cdi_name_check.specs.DuplicateName.{claims_after, ListDuplicates}
use Rattle.cdi_problems.specs.Elements.{shown}
use Rattle.cdi_name_check.proofs.duplicate_name.list_duplicates.Given as goal

abbrev pub invariant-loop-element : goal.invariant-loop-element
invariant-loop-element l = record {
  claimed : HasClaims (claims_after (shown (take l.element-index l.elements))) l.claims;
  listed : ListDuplicates (shown (take l.element-index l.elements)) l.found;
}
