use Rattle.std.proofs.Common.{◌∙◌, ◌++◌, ap}
use Rattle.cdi_problems.specs.Elements.{shown, interceptor_elements}
use Rattle.cdi_problems.proofs.Numbered.{next_numbered}
use Rattle.cdi_problems.proofs.element.owned.add_interceptors.Goals as goal

pub loop-index-preserved : goal.loop-index-preserved
loop-index-preserved c =
    let i = c.loop-index.index in
    let x = c.index-interceptors-index.result in
    c.in_ok-add_interceptor.ensures ∙ ap (λ es. es ++ interceptor_elements (i, x)) c.loop-index.invariant
    ∙ next_numbered interceptor_elements c.args.interceptors.now i x (shown c.args.elements.now.items) c.loop-index-test.true c.index-interceptors-index.is
