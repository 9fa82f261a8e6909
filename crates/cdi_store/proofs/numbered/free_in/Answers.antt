use Rattle.cdi_store.proofs.Absent.{absent, free_absent}
use Rattle.cdi_store.proofs.numbered.free_in.Goals as goal

pub returns-in_default : goal.returns-in_default
returns-in_default c =
    let s = c.args.store.now in
    let none = absent c.key.result _ c.key.ensures.live c.in_default.is in
    free_absent c.key.result s c.args.number c.key.ensures.key c.in_default.is none
