use Rattle.std.proofs.Common.{◌≡◌, true≢false, sym, List, take, subst, arith, All}
use Rattle.std.proofs.lemmas.Grind.{common_steps}
use Rattle.cdi_types.specs.Subtype.{IsCyclic}
use Rattle.cdi_types.specs.declared.declaration.TypeDeclaration.{TypeDeclaration}
use Rattle.cdi_types.proofs.Cycles.{all_more, acyclic}
use Rattle.cdi_types.proofs.graph.TypeGraph.has_cycle.Goals as goal

pub loop-declared-preserved : goal.loop-declared-preserved
loop-declared-preserved c =
    let i = c.loop-declared in
    all_more (λ d. ¬ IsCyclic c.args.self.now d.name) _ i.declared-index c.declared-item.result c.loop-declared-test.true c.declared-item.is i.invariant (λ s. true≢false (sym (c.if-is_cyclic.ensures.1 s)))

pub returns : goal.returns
returns c =
    let i = c.loop-declared in
    let all : take i.declared-index c.as_slice-declared-items.result.now ≡ c.args.self.now = grind (arith, common_steps, c.as_slice-declared-items.ensures, c.self.view_is) in
    let P : List TypeDeclaration → Type 0 = All (λ d. ¬ IsCyclic c.args.self.now d.name) in
    acyclic c.args.self.now (subst P all i.invariant)
