use Rattle.std.proofs.Common.{◌≡◌, ◌≤◌, ℕ, length, subst, arith}
use Rattle.cdi_live.specs.Graphs.{HasRows}
use Rattle.cdi_live.specs.Settings.{setting_of, counts_of}
use Rattle.cdi_live.proofs.Rows.{interceptor_row_more, no_interceptors}
use Rattle.cdi_live.proofs.deployment_tables.DeploymentTables.rows.Goals as goal

pub loop-place-init : goal.loop-place-init
loop-place-init c = no_interceptors (setting_of c.args.self.now) (counts_of c.args.self.now) c.in_ok-graph.graph c.in_ok-graph.ensures

pub loop-place-preserved : goal.loop-place-preserved
loop-place-preserved c =
    rw c.in_ok-push.ensures.ok (interceptor_row_more c.loop-place.graph c.in_ok-interceptor_row.field-0 (setting_of c.args.self.now) (counts_of c.args.self.now) c.loop-place.place c.loop-place.invariant c.in_ok-interceptor_row.ensures)

pub returns : goal.returns
returns c =
    let all = length c.args.self.now.live.now.interceptors in
    let past : all ≤ c.loop-place.place = rw c.interceptors-place-end.ensures at c.loop-place-test.false in
    let within : c.loop-place.place ≤ all = rw c.interceptors-place-end.ensures at c.loop-place.auto.place-end in
    let same : c.loop-place.place ≡ all = omega arith in
    let P : ℕ → Type 0 = λ k. HasRows (setting_of c.args.self.now) (counts_of c.args.self.now) k c.loop-place.graph in
    subst P same c.loop-place.invariant
