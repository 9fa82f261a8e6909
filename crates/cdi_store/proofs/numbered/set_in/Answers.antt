use Rattle.std.proofs.Common.{sym, ap}
use Rattle.cdi_base.specs.Fields.{set}
use Rattle.cdi_store.specs.Live.{Kept}
use Rattle.cdi_store.proofs.Absent.{absent, untouched}
use Rattle.cdi_store.proofs.numbered.set_in.Goals as goal

pub returns-in_default : goal.returns-in_default
returns-in_default c =
    let s = c.args.store.now in
    let none = absent c.key.result _ c.key.ensures.live c.in_default.is in
    sym (ap (λ live. let kept : Kept = record s { instances = live } in kept)
    (untouched s.instances c.args.number
    (λ o. record o { fields = set o.fields c.args.field c.args.value }) none))
