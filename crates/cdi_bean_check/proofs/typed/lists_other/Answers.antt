use Rattle.std.proofs.Common.{◌≡◌, ℕ, List, take, subst, refl, arith, All}
use Rattle.std.proofs.lemmas.Grind.{common_steps}
use Rattle.std.proofs.lemmas.List.Elements.{All-contains}
use Rattle.cdi_types.proofs.Cycles.{all_more}
use Rattle.cdi_types.specs.Subtype.{IsSubtype}
use Rattle.cdi_bean_check.proofs.typed.lists_other.Goals as goal

pub loop-name-preserved : goal.loop-name-preserved
loop-name-preserved c =
    let i = c.loop-name in
    all_more (λ name. IsSubtype c.args.types.now c.args.of name) c.args.typed.now i.name-index c.name-item.result c.loop-name-test.true c.name-item.is i.invariant (c.if-not-is_subtype.ensures.0 refl)

pub returns : goal.returns
returns c = λ other.
    let i = c.loop-name in
    let all : take i.name-index c.args.typed.now ≡ c.args.typed.now = grind (arith, common_steps, c.loop-name-test.false) in
    let P : List ℕ → Type 0 = All (λ name. IsSubtype c.args.types.now c.args.of name) in
    other.not_above (All-contains (λ name. IsSubtype c.args.types.now c.args.of name) c.args.typed.now other.type (subst P all i.invariant) other.listed)
