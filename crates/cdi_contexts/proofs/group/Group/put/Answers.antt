use Rattle.std.proofs.Common.{◌≡◌, ◌∙◌, ap, sym, Some, None, true≢false}
use Rattle.cdi_base.specs.Maps.{put_in_order, at}
use Rattle.cdi_store.proofs.Entries.{at-lookup}
use Rattle.cdi_contexts.specs.Contexts.{Active}
use Rattle.cdi_contexts.specs.Group.{with_table, table_at}
use Rattle.cdi_contexts.proofs.Indexed.{index-with_table}
use Rattle.cdi_store.proofs.Absent.{untouched}
use Rattle.cdi_contexts.proofs.Slots.{written, rewritten, absent, apart-with_table, taken-with_table, on_err}
use Rattle.cdi_contexts.proofs.group.Group.put.Goals as goal

pub returns-in_default-clause-ok : goal.returns-in_default-clause-ok
returns-in_default-clause-ok g c =
    let f = (λ (a : Active). record a { holds = put_in_order c.args.bean c.args.held a.holds }) in
    let none = absent c.self.inside.kept.entries c.args.slot (sym c.in_default.ensures.found) in
    sym c.self.view_is ∙ sym (untouched c.self.inside.kept.entries c.args.slot (λ k. record k { table = f k.table }) none) ∙ ap (with_table c.args.slot f) c.self.view_is

pub invariant_of-self : goal.invariant_of-self
invariant_of-self g c =
    let m = c.self.inside.kept.entries in
    let k = c.index_mut-kept.result.now in
    let is = rewritten m c.args.slot c.in-Some.index k (record k { table = c.put.new.self }) c.in-Some.ensures.index c.in-Some.ensures.value c.index_mut-kept.ensures.value (ap (λ t. record k { table = t }) c.in_err-put.ensures.err) in
    rw is c.self.invariant

pub returns-in_err-put-clause-err : goal.returns-in_err-put-clause-err
returns-in_err-put-clause-err g c =
    let m = c.self.inside.kept.entries in
    let k = c.index_mut-kept.result.now in
    let is = rewritten m c.args.slot c.in-Some.index k (record k { table = c.put.new.self }) c.in-Some.ensures.index c.in-Some.ensures.value c.index_mut-kept.ensures.value (ap (λ t. record k { table = t }) c.in_err-put.ensures.err) in
    on_err c.from_residual.result _ (is ∙ c.self.view_is)

pub returns-in_err-put-clause-there : goal.returns-in_err-put-clause-there
returns-in_err-put-clause-there g c = λ h.
    let m = c.self.inside.kept.entries in
    let k = c.index_mut-kept.result.now in
    let found : at m c.args.slot ≡ Some k = sym (at-lookup m c.args.slot) ∙ sym c.in-Some.ensures.value ∙ c.index_mut-kept.ensures.value in
    let here : table_at c.args.self.now (Some c.args.slot) ≡ Some k.table = ap (λ m. table_at m (Some c.args.slot)) (sym c.self.view_is) ∙ ap (λ o. elim o [ None ↦ None | Some k ↦ Some k.table ]) found in
    absurd (true≢false (sym (c.in_err-put.ensures.there (rw here at h))))

pub invariant_of-self-2 : goal.invariant_of-self-2
invariant_of-self-2 g c =
    let m = c.self.inside.kept.entries in
    let k = c.index_mut-kept.result.now in
    let f = (λ (a : Active). record a { holds = put_in_order c.args.bean c.args.held a.holds }) in
    let is = written m c.args.slot c.in-Some.index k (record k { table = c.put.new.self }) (λ k. record k { table = f k.table }) c.in-Some.ensures.index c.in-Some.ensures.value c.index_mut-kept.ensures.value (ap (λ t. record k { table = t }) c.in_ok-put.ensures.ok) in
    rw is (taken-with_table c.self.inside.taken m c.args.slot f c.self.invariant.0, apart-with_table m c.args.slot f c.self.invariant.1, index-with_table m c.args.slot f c.self.inside.names c.self.invariant.2)

pub returns-clause-ok : goal.returns-clause-ok
returns-clause-ok g c =
    let m = c.self.inside.kept.entries in
    let k = c.index_mut-kept.result.now in
    let f = (λ (a : Active). record a { holds = put_in_order c.args.bean c.args.held a.holds }) in
    written m c.args.slot c.in-Some.index k (record k { table = c.put.new.self }) (λ k. record k { table = f k.table }) c.in-Some.ensures.index c.in-Some.ensures.value c.index_mut-kept.ensures.value (ap (λ t. record k { table = t }) c.in_ok-put.ensures.ok)
    ∙ ap (with_table c.args.slot f) c.self.view_is
