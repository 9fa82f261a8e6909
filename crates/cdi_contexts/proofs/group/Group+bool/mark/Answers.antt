use Rattle.std.proofs.Common.{◌∙◌, ap, sym, refl}
use Rattle.cdi_base.specs.Maps.{adjusted}
use Rattle.cdi_contexts.specs.Group.{marked}
use Rattle.cdi_contexts.proofs.Indexed.{index-adjusted}
use Rattle.cdi_store.proofs.Absent.{untouched}
use Rattle.cdi_contexts.proofs.Slots.{written, absent, apart-adjusted, taken-adjusted}
use Rattle.cdi_contexts.proofs.group.Group+bool.mark.Goals as goal

pub invariant_of-self : goal.invariant_of-self
invariant_of-self c =
    let m = c.self.inside.kept.entries in
    let k = c.index_mut-kept.result.now in
    let is = written m c.args.slot c.in-Some.index k (marked k) marked c.in-Some.ensures.index c.in-Some.ensures.value c.index_mut-kept.ensures.value refl in
    rw is (taken-adjusted c.self.inside.taken m c.args.slot marked (λ k. refl) c.self.invariant.0, apart-adjusted m c.args.slot marked (λ k. refl) c.self.invariant.1, index-adjusted m c.args.slot marked c.self.inside.names (λ k. refl) c.self.invariant.2)

pub returns-in-Some-clause-marked : goal.returns-in-Some-clause-marked
returns-in-Some-clause-marked c =
    let m = c.self.inside.kept.entries in
    let k = c.index_mut-kept.result.now in
    written m c.args.slot c.in-Some.index k (marked k) marked c.in-Some.ensures.index c.in-Some.ensures.value c.index_mut-kept.ensures.value refl
    ∙ ap (adjusted c.args.slot marked) c.self.view_is

pub returns-in_default-clause-marked : goal.returns-in_default-clause-marked
returns-in_default-clause-marked c =
    let none = absent c.self.inside.kept.entries c.args.slot (sym c.in_default.ensures.found) in
    sym c.self.view_is ∙ sym (untouched c.self.inside.kept.entries c.args.slot marked none) ∙ ap (adjusted c.args.slot marked) c.self.view_is
