-- A body that calls with a wrong number of values doesn't fit.
use Rattle.std.proofs.Common.{◌≡◌, [], Some, refl, subst}
use Rattle.cdi_base.specs.declared.act.Act.{Act}
use Rattle.cdi_base.specs.declared.act.Act.TheVariants as acts
use Rattle.cdi_bodies.specs.declared.view.View.{View}
use Rattle.cdi_machine.specs.Tables.{Bean}
use Rattle.cdi_whole.specs.Worked.{bean, class, legal_by, of_type, tables}
use Rattle.cdi_whole.specs.Fits.{Fits, FitsBody, FitsClass, FitsKind, class_site}
use Rattle.cdi_whole.specs.Replies.{CallWithNone, RefusesWrongCounts}

-- if all fits, so does whatever a callback gives
callback : Fits tables (legal_by CallWithNone) → FitsBody tables (legal_by CallWithNone) (class_site class [] 3)
callback fits =
    let b = fits.resolved (of_type 1) 0 refl in
    by b.bean b.known b.kind
  where
    by : (x : Bean) → Some bean ≡ Some x → FitsKind tables (legal_by CallWithNone) x.kind → FitsBody tables (legal_by CallWithNone) (class_site class [] 3)
    by x e k =
        let q : x ≡ bean = cc in
        let c : FitsClass tables (legal_by CallWithNone) class = subst (λ (y : Bean). FitsKind tables (legal_by CallWithNone) y.kind) q k in
        c.pre_destroy.callbacks.0

nothing_seen : View
nothing_seen = record { args = []; answers = [] }

pub refuses_counts : RefusesWrongCounts
refuses_counts fits =
    let h = callback fits 0 [] nothing_seen (acts.Own 7 []) (refl, refl) in
    let has = h.has in
    let takes = h.takes in
    absurd (cc (has, takes))
