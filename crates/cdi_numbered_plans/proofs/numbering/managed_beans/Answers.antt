use Rattle.std.proofs.Common.{◌≡◌, ◌∙◌, ◌&&◌, ℕ, Bool, Option, Some, cond, nat_eq, not, take, sym, ap}
use Rattle.std.specs.Option.{is_some}
use Rattle.cdi_beans.specs.Kinds.{is_managed}
use Rattle.cdi_beans.specs.declared.bean.Bean.{Bean}
use Rattle.cdi_types.proofs.ClassPlaces.{position-more}
use Rattle.cdi_event_tables.proofs.ManagedPlaces.{gets, keeps}
use Rattle.cdi_event_tables.specs.Observers.{managed_bean}
use Rattle.cdi_numbered_plans.proofs.numbering.managed_beans.Goals as goal
use Rattle.cdi_numbered_plans.proofs.numbering.managed_beans.Goals.{then-takes_place+in_ok-insert, else-takes_place}

pub loop-place-preserved : goal.loop-place-preserved
loop-place-preserved c = λ q.
    let beans = c.args.beans.now in
    let i = c.loop-place.place in
    let b = c.index-beans-place.result in
    let before : ℕ → Option ℕ = λ class. managed_bean (take i beans) class in
    let managed = is_managed b.kind in
    let more = position-more (λ (k : Bean). is_managed k.kind && nat_eq k.class q) beans i b c.loop-place-test.true c.index-beans-place.is in
    let told : (t : Bool) → c.takes_place.result ≡ t → (managed && not (is_some (before b.class))) ≡ t = λ t is.
    ap (λ o. managed && not (is_some o)) (sym (c.loop-place.invariant b.class)) ∙ sym c.takes_place.ensures ∙ is in
    elim c.if-takes_place.branch [
      | then-takes_place+in_ok-insert w ↦ rw w.managed-is (w.in_ok-insert.ensures.updates.0 q ∙ ap (cond (nat_eq b.class q) (Some i)) (c.loop-place.invariant q) ∙ gets before managed b.class i q (told _ w.if-takes_place.true) ∙ sym more)
      | else-takes_place w ↦ rw w.managed-is (c.loop-place.invariant q ∙ keeps before managed b.class i q (told _ w.if-takes_place.false) ∙ sym more)
    ]
