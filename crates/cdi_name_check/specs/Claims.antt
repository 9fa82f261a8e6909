-- Sets of claims, by the test of what they have.
use Rattle.std.specs.Prelude.{◌≡◌, Bool, ◌||◌, List}
use Rattle.std.specs.HashSet.{contains}
use Rattle.std.specs.List.{list_any}
use Rattle.cdi_name_check.specs.contracts.claim.ClaimPartialEq.TheImpl as claim_eq
use Rattle.cdi_name_check.specs.declared.claim.Claim.{Claim}
use Rattle.cdi_name_check.specs.declared.claims.Claims.{Claims}

-- the `==` of claims
abbrev pub same_claim : Claim → Claim → Bool
same_claim = (claim_eq.ghosts).eq

-- whether a set has a claim
abbrev pub has : Claims → Claim → Bool
has claims claim = contains same_claim claims.set claim

-- a set has the claims of a list, and no others
pub record HasClaims (listed : List Claim) (claims : Claims) : Type 0 where
  pub same : (claim : Claim) → has claims claim ≡ list_any (same_claim claim) listed

-- the new set has the old one's claims and those of a list
pub record AddsClaims (listed : List Claim) (old new : Claims) : Type 0 where
  pub same : (claim : Claim) → has new claim ≡ (has old claim || list_any (same_claim claim) listed)
