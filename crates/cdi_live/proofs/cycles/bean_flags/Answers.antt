use Rattle.std.proofs.Common.{◌≡◌, ◌<◌, ◌≤◌, refl, sym, ap, length-append, arith}
use Rattle.std.specs.Prelude.{◌↔◌, IsTrue}
use Rattle.cdi_enable.proofs.Flags.{flag_push}
use Rattle.cdi_live.specs.Cycles.{BeanNeedsItself}
use Rattle.cdi_live.specs.Settings.{setting_of, counts_of}
use Rattle.cdi_live.proofs.Needy.{flags_all}
use Rattle.cdi_live.proofs.Paths.{bean_cycle, bean_there}
use Rattle.cdi_live.proofs.cycles.bean_flags.Goals as goal

pub loop-index-preserved : goal.loop-index-preserved
loop-index-preserved c =
    let t = c.args.tables.now in
    let s = setting_of t in
    let n = counts_of t in
    let i = c.loop-index in
    let r = t.beans.now.resolver in
    let same : c.counts-index-end.result.beans ≡ n.beans = ap (λ k. k.beans) c.counts-index-end.ensures.counts in
    let lt : i.index < n.beans = omega (arith, same, c.loop-index-test.true) in
    let cycle = bean_cycle s n r.beans r.flags (sym t.same_beans) refl refl t.same_interceptors c.args.cycles.now c.requires i.index lt in
    rw c.in_ok-push.ensures.ok (record {
      len = simp length-append (omega (arith, i.invariant.len));
      told = flag_push (λ b f. IsTrue f ↔ BeanNeedsItself s b) i.flags c.is_on_cycle.result i.index i.invariant.len i.invariant.told (λ h. cycle.0 (c.is_on_cycle.ensures.0 h), λ p. c.is_on_cycle.ensures.1 (cycle.1 p));
    })

pub returns : goal.returns
returns c =
    let t = c.args.tables.now in
    let s = setting_of t in
    let n = counts_of t in
    let i = c.loop-index in
    let r = t.beans.now.resolver in
    let same : c.counts-index-end.result.beans ≡ n.beans = ap (λ k. k.beans) c.counts-index-end.ensures.counts in
    let past : n.beans ≤ i.index = omega (arith, same, c.loop-index-test.false) in
    flags_all i.flags i.index (BeanNeedsItself s) i.invariant.len (λ b le p. let lt : b < n.beans = bean_there s n r.beans r.flags (sym t.same_beans) refl refl t.same_interceptors c.args.cycles.now c.requires b _ p in omega arith) i.invariant.told
