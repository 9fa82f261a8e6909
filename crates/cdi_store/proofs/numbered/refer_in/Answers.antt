use Rattle.std.proofs.Common.{sym, ap}
use Rattle.cdi_base.specs.Maps.{put}
use Rattle.cdi_store.specs.Live.{Kept}
use Rattle.cdi_store.proofs.Absent.{absent, untouched}
use Rattle.cdi_store.proofs.numbered.refer_in.Goals as goal

pub returns-in_default-clause-ok : goal.returns-in_default-clause-ok
returns-in_default-clause-ok c =
    let s = c.args.store.now in
    let none = absent c.key.result _ c.key.ensures.live c.in_default.is in
    sym (ap (λ live. let kept : Kept = record s { instances = live } in kept)
    (untouched s.instances c.args.number
    (λ o. record o { references = put c.args.field c.args.reference o.references }) none))
