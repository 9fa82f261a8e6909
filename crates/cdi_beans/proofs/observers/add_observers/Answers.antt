use Rattle.std.proofs.lemmas.List.Elements.{filter_map-append}
use Rattle.std.specs.List.{filter_map}
use Rattle.cdi_beans.specs.ObserverMethods.{observer}
use Rattle.cdi_beans.proofs.Adding.{adds_next}
use Rattle.cdi_beans.proofs.observers.add_observers.Goals as goal

pub loop-member-preserved : goal.loop-member-preserved
loop-member-preserved c =
    let i = c.loop-member in
    adds_next (filter_map observer) (filter_map-append observer) c.args.members.now i.member-index c.member-item.result _ i.observers c.add_observer.new.observers c.loop-member-test.true c.member-item.is i.invariant c.in_ok-add_observer.ensures
