use Rattle.std.proofs.Common.{◌≡◌, ◌∙◌, ap, sym, Some, None, option_map}
use Rattle.cdi_store.proofs.Entries.{at-lookup}
use Rattle.cdi_contexts.specs.Group.{kept_named}
use Rattle.cdi_contexts.proofs.Indexed.{index-found, index-not_found}
use Rattle.cdi_contexts.proofs.group.Group.find.Goals as goal

pub returns-in_err-slot-clause-value : goal.returns-in_err-slot-clause-value
returns-in_err-slot-clause-value g c =
    let m = c.self.inside.kept.entries in
    let none = index-not_found m c.self.inside.names c.args.name.now c.self.invariant.2 c.in_err-slot.ensures in
    rw c.from_residual.ensures (sym none ∙ ap (λ n. kept_named n c.args.name.now) c.self.view_is)

pub returns-in_err-get-clause-value : goal.returns-in_err-get-clause-value
returns-in_err-get-clause-value g c =
    let m = c.self.inside.kept.entries in
    let f = index-found m c.self.inside.names c.args.name.now c.in_ok-slot.slot c.self.invariant.1 c.self.invariant.2 c.in_ok-slot.ensures in
    let none : None ≡ Some f.0 = c.in_err-get.ensures.value ∙ at-lookup m c.in_ok-slot.slot ∙ f.1 in
    absurd (cc)

pub returns-clause-value : goal.returns-clause-value
returns-clause-value g c =
    let m = c.self.inside.kept.entries in
    let f = index-found m c.self.inside.names c.args.name.now c.in_ok-slot.slot c.self.invariant.1 c.self.invariant.2 c.in_ok-slot.ensures in
    let same : Some c.in_ok-get.field-0.now ≡ Some f.0 = c.in_ok-get.ensures.value ∙ at-lookup m c.in_ok-slot.slot ∙ f.1 in
    ap (option_map (λ k. (c.in_ok-slot.slot, k))) same ∙ sym f.2 ∙ ap (λ n. kept_named n c.args.name.now) c.self.view_is
