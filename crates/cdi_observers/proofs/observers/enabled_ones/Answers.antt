use Rattle.std.proofs.Common.{true, rules}
use Rattle.cdi_beans.specs.declared.bean.ObserverMethod.{ObserverMethod}
use Rattle.cdi_enable.specs.Enablement.{IsEnabledClass}
use Rattle.cdi_observers.proofs.Retained.{retained, not_enabled}
use Rattle.cdi_observers.proofs.observers.enabled_ones.Goals as goal

pub returns : goal.returns
returns c =
    let e = c.args.enabled.now in
    rw (c.new.ensures, ← c.into_vec-observers.ensures) (
    retained _ (λ (o : ObserverMethod) b. IsEnabledClass e o.bean b) (λ o. IsEnabledClass e o.bean true) _ (λ x b f' k. search rules) (λ o h. h) (λ o. not_enabled e o.bean) _ _ c.retain.ensures.filtered)
