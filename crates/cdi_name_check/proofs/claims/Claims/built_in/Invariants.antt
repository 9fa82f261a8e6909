use Rattle.std.proofs.Common.{take}
use Rattle.std.specs.List.{filter_map}
use Rattle.cdi_name_check.specs.Claims.{HasClaims}
use Rattle.cdi_name_check.specs.DuplicateName.{built_in_claim}
use Rattle.cdi_name_check.proofs.claims.Claims.built_in.Given as goal

abbrev pub invariant-loop-built_in : goal.invariant-loop-built_in
invariant-loop-built_in l = HasClaims (filter_map built_in_claim (take l.built_in-index l.built_in-items)) l.claims
