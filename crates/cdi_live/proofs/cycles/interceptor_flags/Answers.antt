use Rattle.std.proofs.Common.{◌≡◌, ◌+◌, ◌<◌, ◌≤◌, refl, sym, ap, length-append, arith}
use Rattle.std.specs.Prelude.{◌↔◌, IsTrue}
use Rattle.cdi_enable.proofs.Flags.{flag_push}
use Rattle.cdi_paths.specs.Graph.{ProperPath}
use Rattle.cdi_live.specs.Cycles.{InterceptorNeedsItself}
use Rattle.cdi_live.specs.Settings.{setting_of, counts_of}
use Rattle.cdi_live.proofs.Needy.{flags_all}
use Rattle.cdi_live.proofs.Paths.{interceptor_cycle, interceptor_there}
use Rattle.cdi_live.proofs.cycles.interceptor_flags.Goals as goal

pub loop-place-preserved : goal.loop-place-preserved
loop-place-preserved c =
    let t = c.args.tables.now in
    let s = setting_of t in
    let n = counts_of t in
    let i = c.loop-place in
    let r = t.beans.now.resolver in
    let beans : c.counts-counts.result.beans ≡ n.beans = ap (λ k. k.beans) c.counts-counts.ensures.counts in
    let same : c.counts-counts.result.interceptors ≡ n.interceptors = ap (λ k. k.interceptors) c.counts-counts.ensures.counts in
    let lt : i.place < n.interceptors = omega (arith, same, c.loop-place-test.true) in
    let cycle = interceptor_cycle s n r.beans r.flags (sym t.same_beans) refl refl t.same_interceptors c.args.cycles.now c.requires i.place lt in
    let told : IsTrue c.is_on_cycle.result ↔ ProperPath c.args.cycles.now (n.beans + i.place) (n.beans + i.place) = rw beans at c.is_on_cycle.ensures in
    rw c.in_ok-push.ensures.ok (record {
      len = simp length-append (omega (arith, i.invariant.len));
      told = flag_push (λ b f. IsTrue f ↔ InterceptorNeedsItself s b) i.flags c.is_on_cycle.result i.place i.invariant.len i.invariant.told (λ h. cycle.0 (told.0 h), λ p. told.1 (cycle.1 p));
    })

pub returns : goal.returns
returns c =
    let t = c.args.tables.now in
    let s = setting_of t in
    let n = counts_of t in
    let i = c.loop-place in
    let r = t.beans.now.resolver in
    let same : c.counts-counts.result.interceptors ≡ n.interceptors = ap (λ k. k.interceptors) c.counts-counts.ensures.counts in
    let past : n.interceptors ≤ i.place = omega (arith, same, c.loop-place-test.false) in
    flags_all i.flags i.place (InterceptorNeedsItself s) i.invariant.len (λ k le p. let over : n.interceptors ≤ k = omega arith in interceptor_there s n r.beans r.flags (sym t.same_beans) refl refl t.same_interceptors c.args.cycles.now c.requires k _ over p) i.invariant.told
