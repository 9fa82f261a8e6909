use Rattle.std.proofs.Common.{◌≡◌, pos, List, get_or, take, true≢false, refl, sym, subst, arith}
use Rattle.std.proofs.lemmas.Grind.{common_steps}
use Rattle.std.proofs.lemmas.List.{get_or_default}
use Rattle.cdi_types.specs.ListsThose.{ListsThose}
use Rattle.cdi_observers.specs.Order.{HearsAt}
use Rattle.cdi_observers.specs.declared.order.RankedObserver.{RankedObserver}
use Rattle.cdi_observers.proofs.Those.{one_more, no_more}
use Rattle.cdi_observers.proofs.event.Event.heard.Goals as goal
use Rattle.cdi_observers.proofs.event.Event.heard.Goals.{then-hears_at+in_ok-push, else-hears_at}

pub loop-ranked-init : goal.loop-ranked-init
loop-ranked-init c = rw c.empty-heard.ensures ListsThose.none

pub loop-ranked-preserved : goal.loop-ranked-preserved
loop-ranked-preserved c =
    let i = c.loop-ranked in
    let order = c.args.order.now in
    let x : RankedObserver = get_or order i.ranked-index (record { priority = pos 0; index = 0 }) in
    let is : x ≡ get_or order i.ranked-index x = get_or_default order i.ranked-index (record { priority = pos 0; index = 0 }) x c.loop-ranked-test.true in
    elim c.if-hears_at.branch [
      | then-hears_at+in_ok-push w ↦ rw (w.heard-is, w.in_ok-push.ensures.ok) (one_more order i.heard i.ranked-index x c.loop-ranked-test.true is i.invariant (w.if-hears_at.ensures.0 refl))
      | else-hears_at w ↦ rw w.heard-is (no_more order i.heard i.ranked-index x c.loop-ranked-test.true is i.invariant (λ s. true≢false (sym (w.if-hears_at.ensures.1 s))))
    ]

pub returns : goal.returns
returns c =
    let i = c.loop-ranked in
    let event = c.args.self.now in
    let P : List RankedObserver → Type 0 = λ rs. ListsThose (λ r. HearsAt event.types.now event.class event.qualifiers.now c.args.observers.now r.index) rs i.heard in
    let all : take i.ranked-index c.args.order.now ≡ c.args.order.now = grind (arith, common_steps) in
    subst P all i.invariant
