use Rattle.std.proofs.Common.{◌∙◌, sym, ap}
use Rattle.std.specs.Option.{option_copied}
use Rattle.cdi_base.specs.Maps.{at}
use Rattle.cdi_store.proofs.Slots.{lying, at-instances_in}
use Rattle.cdi_store.proofs.store.Store.with_number.Goals as goal

pub returns-in_err-slot : goal.returns-in_err-slot
returns-in_err-slot c =
    let s = c.self.inside in
    let n = c.args.number in
    ap option_copied c.from_residual.ensures
    ∙ ap (lying s.slots.slots) c.in_err-slot.ensures
    ∙ sym (at-instances_in s.slots.slots s.numbers n c.self.invariant.sound.occupied)
    ∙ ap (λ k. at k.instances n) c.self.view_is

pub returns : goal.returns
returns c =
    let s = c.self.inside in
    let n = c.args.number in
    c.get-2.ensures
    ∙ ap (lying s.slots.slots) c.in_ok-slot.ensures
    ∙ sym (at-instances_in s.slots.slots s.numbers n c.self.invariant.sound.occupied)
    ∙ ap (λ k. at k.instances n) c.self.view_is
