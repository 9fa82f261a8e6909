use Rattle.std.proofs.Common.{◌≡◌, ◌∙◌, sym, ap, refl, is_some, true}
use Rattle.std.specs.Option.{option_map}
use Rattle.cdi_base.specs.Maps.{at}
use Rattle.cdi_store.specs.declared.key.Key.{Key}
use Rattle.cdi_store.specs.Live.{key_at}
use Rattle.cdi_store.proofs.Slots.{is_some-instances_in}
use Rattle.cdi_store.proofs.store.Store.key.Goals as goal

pub returns-in_err-slot-clause-key : goal.returns-in_err-slot-clause-key
returns-in_err-slot-clause-key c =
    let n = c.args.number in
    let key = λ (slot : _). let k : Key = record { slot = slot; number = n } in k in
    c.from_residual.ensures
    ∙ ap (option_map key) c.in_err-slot.ensures
    ∙ ap (λ s. key_at s n) c.self.view_is

pub returns-clause-key : goal.returns-clause-key
returns-clause-key c =
    let n = c.args.number in
    let key = λ (slot : _). let k : Key = record { slot = slot; number = n } in k in
    ap (option_map key) c.in_ok-slot.ensures
    ∙ ap (λ s. key_at s n) c.self.view_is

pub returns-in_err-slot-clause-live : goal.returns-in_err-slot-clause-live
returns-in_err-slot-clause-live c =
    let n = c.args.number in
    let es = c.self.inside.numbers in
    let same : is_some c.from_residual.result ≡ is_some (at c.args.self.now.instances n) =
    ap is_some c.from_residual.ensures
    ∙ ap is_some c.in_err-slot.ensures
    ∙ is_some-instances_in c.self.inside.slots.slots es n c.self.invariant.sound.occupied
    ∙ ap (λ s. is_some (at s.instances n)) c.self.view_is in
    (λ h. sym same ∙ h, λ h. same ∙ h)

pub returns-clause-live : goal.returns-clause-live
returns-clause-live c =
    let n = c.args.number in
    let es = c.self.inside.numbers in
    let same : true ≡ is_some (at c.args.self.now.instances n) =
    ap is_some c.in_ok-slot.ensures
    ∙ is_some-instances_in c.self.inside.slots.slots es n c.self.invariant.sound.occupied
    ∙ ap (λ s. is_some (at s.instances n)) c.self.view_is in
    (λ _. sym same, λ _. refl)
