use Rattle.std.proofs.Common.{◌≡◌, ◌∙◌, List, take, subst, sym, arith, All}
use Rattle.std.proofs.lemmas.Bool.{true≢false}
use Rattle.std.proofs.lemmas.Grind.{common_steps}
use Rattle.cdi_types.specs.declared.declaration.TypeDeclaration.{TypeDeclaration}
use Rattle.cdi_bean_check.specs.BeanTypes.{IsLost}
use Rattle.cdi_bean_check.proofs.LostTypes.{none_lost}
use Rattle.cdi_bean_check.proofs.lost_types.lacks_type_of.Goals as goal

pub returns : goal.returns
returns c =
    let types = c.args.types.now in
    let specialized = c.args.specialized.now in
    let class = c.args.class.now in
    let l = c.loop-declared in
    let items = c.declarations-declared-items.result.now in
    let all : take l.declared-index items ≡ items = grind (arith, common_steps, c.loop-declared-test.false) in
    let P : List TypeDeclaration → Type 0 = All (λ d. IsLost types specialized class d.name → ⊥) in (
      λ h. absurd (true≢false (sym h)),
      λ lacks. absurd (none_lost types c.law_sound.ensures.known specialized class
          (λ lost. true≢false (sym (c.is_lost.ensures.1 lost) ∙ c.if-is_lost.false))
          (subst P (all ∙ c.declarations-declared-items.ensures) l.invariant) lacks),
    )
