use Rattle.std.proofs.Common.{sym, ap}
use Rattle.cdi_store.specs.Live.{Kept}
use Rattle.cdi_store.proofs.Absent.{absent, leaving_absent}
use Rattle.cdi_store.proofs.numbered.leave_in.Goals as goal

pub returns-in_default : goal.returns-in_default
returns-in_default c =
    let s = c.args.store.now in
    let none = absent c.key.result _ c.key.ensures.live c.in_default.is in
    sym (ap (λ live. let kept : Kept = record s { instances = live } in kept)
    (leaving_absent s.instances c.args.number none))
