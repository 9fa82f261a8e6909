use Rattle.cdi_beans.specs.Interceptors.{IsEnabledInterceptor}
use Rattle.cdi_beans.proofs.Adding.{zip_more}
use Rattle.cdi_beans.proofs.interceptors.interceptors_of.Goals as goal

pub loop-indexed-preserved : goal.loop-indexed-preserved
loop-indexed-preserved c =
    let i = c.loop-indexed in
    rw c.in_ok-push.ensures.ok (zip_more (IsEnabledInterceptor c.args.deployment.now.names c.args.bindings.now) c.as_slice-indexed-items.result.now i.interceptors i.indexed-index c.indexed-item.result c.in_ok-enabled_interceptor.field-0 c.loop-indexed-test.true c.indexed-item.is i.invariant c.in_ok-enabled_interceptor.ensures)
