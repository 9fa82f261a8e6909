use Rattle.std.proofs.Common.{◌≡◌, ℕ, ◌<◌, List, length, slice_get, refl, ap, subst, arith}
use Rattle.cdi_enable.specs.Enablement.{IsEnabledBean}
use Rattle.cdi_enable.specs.Free.{flag}
use Rattle.cdi_enable.specs.declared.listed_bean.ListedBean.{ListedBean}
use Rattle.cdi_enable.proofs.Flags.{all_flagged}
use Rattle.cdi_enable.proofs.enabled_set.EnabledSet.flags.Goals as goal

pub returns : goal.returns
returns c =
    let i = c.loop-bean in
    let e = c.args.self.now in
    let same : c.as_slice-bean-items.result.now ≡ e.beans = rw c.as_slice-bean-items.ensures (rw (← c.self.view_is) refl) in
    let P : List ListedBean → Type 0 = λ bs. (b : ℕ) → b < i.bean-index → IsEnabledBean e (slice_get bs b) (flag i.flags b) in
    all_flagged e i.flags i.bean-index i.invariant.len (omega (arith, c.loop-bean-test.false, i.auto.bean-index-end, ap length same)) (subst P same i.invariant.told)
