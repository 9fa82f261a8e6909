use Rattle.std.proofs.Common.{◌∙◌, ap, sym}
use Rattle.cdi_contexts.specs.Contexts.{Active}
use Rattle.cdi_contexts.specs.declared.context.Status.TheVariants.{Ending}
use Rattle.cdi_contexts.specs.Group.{with_table}
use Rattle.cdi_contexts.proofs.Indexed.{index-with_table}
use Rattle.cdi_store.proofs.Absent.{untouched}
use Rattle.cdi_contexts.proofs.Slots.{written, absent, apart-with_table, taken-with_table}
use Rattle.cdi_contexts.proofs.group.Group.end.Goals as goal

pub invariant_of-self : goal.invariant_of-self
invariant_of-self g c =
    let m = c.self.inside.kept.entries in
    let k = c.index_mut-kept.result.now in
    let f = (λ (a : Active). record a { status = Ending }) in
    let is = written m c.args.slot c.in-Some.index k (record k { table = c.end.new.self }) (λ k. record k { table = f k.table }) c.in-Some.ensures.index c.in-Some.ensures.value c.index_mut-kept.ensures.value (ap (λ t. record k { table = t }) c.end.ensures) in
    rw is (taken-with_table c.self.inside.taken m c.args.slot f c.self.invariant.0, apart-with_table m c.args.slot f c.self.invariant.1, index-with_table m c.args.slot f c.self.inside.names c.self.invariant.2)

pub returns-in-Some-clause-ended : goal.returns-in-Some-clause-ended
returns-in-Some-clause-ended g c =
    let m = c.self.inside.kept.entries in
    let k = c.index_mut-kept.result.now in
    let f = (λ (a : Active). record a { status = Ending }) in
    written m c.args.slot c.in-Some.index k (record k { table = c.end.new.self }) (λ k. record k { table = f k.table }) c.in-Some.ensures.index c.in-Some.ensures.value c.index_mut-kept.ensures.value (ap (λ t. record k { table = t }) c.end.ensures)
    ∙ ap (with_table c.args.slot f) c.self.view_is

pub returns-in_default-clause-ended : goal.returns-in_default-clause-ended
returns-in_default-clause-ended g c =
    let f = (λ (a : Active). record a { status = Ending }) in
    let none = absent c.self.inside.kept.entries c.args.slot (sym c.in_default.ensures.found) in
    sym c.self.view_is ∙ sym (untouched c.self.inside.kept.entries c.args.slot (λ k. record k { table = f k.table }) none) ∙ ap (with_table c.args.slot f) c.self.view_is
