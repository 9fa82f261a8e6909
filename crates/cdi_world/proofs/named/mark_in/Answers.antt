use Rattle.std.proofs.Common.{◌≡◌, subst}
use Rattle.cdi_contexts.specs.Contexts.{with_mark}
use Rattle.cdi_world.proofs.Begun.{marked}
use Rattle.cdi_world.proofs.named.mark_in.Goals as goal

pub returns : goal.returns
returns c =
    let old = c.args.contexts.now in
    let new = c.invalidate.new.self in
    subst (λ name. new.contexts ≡ with_mark name old.contexts) c.as_str.ensures
    (marked old new c.as_str.result.now c.invalidate.result c.invalidate.ensures.marked
    c.invalidate.ensures.refused c.invalidate.ensures.err)
