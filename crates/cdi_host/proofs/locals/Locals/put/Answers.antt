use Rattle.std.proofs.Common.{◌≡◌, ◌∙◌, sym, ap, None, is_some, true≢false}
use Rattle.cdi_base.specs.Maps.{at, put}
use Rattle.cdi_store.proofs.Entries.{at-lookup, put-insert_entry}
use Rattle.cdi_host.proofs.locals.Locals.put.Goals as goal

pub returns-in-Some-clause-ok : goal.returns-in-Some-clause-ok
returns-in-Some-clause-ok c =
    (rw c.deref_mut.ensures.value at c.in_ok-insert.ensures.entries)
    ∙ put-insert_entry c.in-Some.entries.value.entries c.args.lookup c.args.reference
    ∙ ap (put c.args.lookup c.args.reference) (rw c.in-Some.is at c.self.view_is)

pub returns-in_err-insert-clause-there : goal.returns-in_err-insert-clause-there
returns-in_err-insert-clause-there c =
    let absent : at c.args.self.now c.args.lookup ≡ None =
    ap (λ m. at m c.args.lookup) (sym (rw c.in-Some.is at c.self.view_is))
    ∙ sym (at-lookup c.in-Some.entries.value.entries c.args.lookup)
    ∙ (rw c.deref_mut.ensures.value at c.in_err-insert.ensures.absent) in
    λ h. absurd (true≢false (sym h ∙ ap is_some absent))
