use Rattle.std.proofs.Common.{◌≡◌, ◌∙◌, ◌++◌, ap, option_to_list, ℕ, take, subst, arith}
use Rattle.std.specs.List.{filter_map}
use Rattle.cdi_base.specs.BuiltIn.{all_built_in}
use Rattle.cdi_name_check.specs.Claims.{HasClaims}
use Rattle.cdi_name_check.specs.DuplicateName.{built_in_claim}
use Rattle.cdi_name_check.proofs.ClaimSets.{has_none, has_more, next_claim}
use Rattle.cdi_name_check.proofs.claims.Claims.built_in.Goals as goal

pub loop-built_in-init : goal.loop-built_in-init
loop-built_in-init c = has_none _ c.new.ensures.empty

pub loop-built_in-preserved : goal.loop-built_in-preserved
loop-built_in-preserved c =
    let l = c.loop-built_in in
    let so_far = filter_map built_in_claim (take l.built_in-index all_built_in) in
    let more = ap (λ o. so_far ++ option_to_list o) c.built_in_claim.ensures ∙ next_claim built_in_claim all_built_in l.built_in-index _ c.loop-built_in-test.true in
    has_more so_far (option_to_list c.built_in_claim.result) _ l.claims c.add.new.self more l.invariant c.in_ok-add.ensures

pub returns : goal.returns
returns c =
    let all : c.loop-built_in.built_in-index ≡ 19 = omega arith in
    let P : ℕ → Type 0 = λ n. HasClaims (filter_map built_in_claim (take n all_built_in)) c.loop-built_in.claims in
    subst P all c.loop-built_in.invariant
