use Rattle.std.proofs.Common.{◌≢◌, ◌∙◌, ap, sym, subst}
use Rattle.std.specs.List.{All}
use Rattle.cdi_base.specs.Maps.{at}
use Rattle.cdi_store.specs.declared.number_index.Entry.{Entry}
use Rattle.cdi_store.proofs.NumberEntries.{at-absent, at-found}
use Rattle.cdi_store.proofs.number_index.NumberIndex.get.Goals as goal

pub returns-in_err-place : goal.returns-in_err-place
returns-in_err-place c =
    let es = c.self.inside.entries.items in
    let n = c.args.number in
    let none : All (λ (e : Entry). e.number ≢ n) es = subst (λ xs. All (λ (e : Entry). e.number ≢ n) xs) c.deref.ensures.value c.in_err-place.ensures in
    c.from_residual.ensures ∙ sym (at-absent es n none) ∙ ap (λ m. at m n) c.self.view_is

pub returns : goal.returns
returns c =
    let es = c.self.inside.entries.items in
    let n = c.args.number in
    sym (at-found c.deref.result.now es n c.in_ok-place.place c.index.result.now c.deref.ensures.value c.self.invariant.ascending c.in_ok-place.ensures c.index.ensures)
    ∙ ap (λ m. at m n) c.self.view_is
