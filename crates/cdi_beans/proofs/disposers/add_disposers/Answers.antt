use Rattle.std.proofs.lemmas.List.Elements.{filter_map-append}
use Rattle.std.specs.List.{filter_map}
use Rattle.cdi_beans.specs.DisposerMethods.{disposer}
use Rattle.cdi_beans.proofs.Adding.{adds_next}
use Rattle.cdi_beans.proofs.disposers.add_disposers.Goals as goal

pub loop-member-preserved : goal.loop-member-preserved
loop-member-preserved c =
    let i = c.loop-member in
    let class = c.args.class.now in
    adds_next (filter_map (disposer class)) (filter_map-append (disposer class)) c.as_slice-member-items.result.now i.member-index c.member-item.result _ i.disposers c.add_disposer.new.disposers c.loop-member-test.true c.member-item.is i.invariant c.in_ok-add_disposer.ensures
