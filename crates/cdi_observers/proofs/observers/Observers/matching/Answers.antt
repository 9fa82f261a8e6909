use Rattle.std.proofs.Common.{◌≡◌, ◌∙◌, List, sym, ap, subst}
use Rattle.std.proofs.lemmas.Result.{IfOk-weaker}
use Rattle.cdi_observers.specs.Groups.{AreGroupsOf}
use Rattle.cdi_observers.specs.Runs.{groups_in}
use Rattle.cdi_observers.specs.declared.group.ObserverGroup.{ObserverGroup}
use Rattle.cdi_observers.proofs.HeardGroups.{groups_of_event}
use Rattle.cdi_observers.proofs.observers.Observers.matching.Goals as goal

pub returns : goal.returns
returns c =
    let table = c.args.self.now in
    let inside = c.self.inside in
    let Groups : List ObserverGroup → Type 0 = AreGroupsOf table c.args.class c.args.qualifiers.now in
    let heard = c.in_ok-heard.heard in
    let all = rw (c.as_slice.ensures, c.as_slice-2.ensures) at c.in_ok-heard.ensures in
    let are : Groups (groups_in heard) = rw (← c.self.view_is) (groups_of_event (record { types = inside.types; observers = inside.observers }) c.args.class c.args.qualifiers.now inside.order heard c.self.invariant.in_order all) in
    IfOk-weaker c.groups_of.result (λ groups. groups ≡ groups_in c.as_slice-3.result.now) Groups (λ groups is. subst Groups (sym (is ∙ ap groups_in c.as_slice-3.ensures)) are) c.groups_of.ensures
