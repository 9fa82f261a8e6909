use Rattle.std.proofs.Common.{◌∙◌, ap}
use Rattle.cdi_store.specs.Live.{is_slot, is_live}
use Rattle.cdi_store.proofs.store.Store.is_live.Goals as goal

pub returns-in-Some : goal.returns-in-Some
returns-in-Some c =
    ap (λ o. is_slot o c.args.key.slot) c.in-Some.ensures
    ∙ ap (λ s. is_live s c.args.key) c.self.view_is

pub returns-in-None : goal.returns-in-None
returns-in-None c =
    ap (λ o. is_slot o c.args.key.slot) c.in-None.ensures
    ∙ ap (λ s. is_live s c.args.key) c.self.view_is
