use Rattle.std.proofs.Common.{◌≡◌, ◌≤◌, min, refl, arith}
use Rattle.cdi_bean_rules.specs.Limits.{bean_count, IsObserverCountUpTo}
use Rattle.cdi_bean_rules.proofs.Counts.{decided}
use Rattle.cdi_bean_rules.proofs.limits.has_too_many.Goals as goal

pub returns : goal.returns
returns c =
    let classes = c.args.deployment.now.classes in
    let o : IsObserverCountUpTo classes c.args.types.now 18446744073709551615 c.in_ok-observers.observers = rw (← c.as_slice-classes.ensures) c.in_ok-observers.ensures in
    let counted : c.bean_count.result ≡ min (bean_count classes) 18446744073709551615 = rw (← c.as_slice-classes.ensures) c.bean_count.ensures in
    let few : bean_count classes ≤ 4096 = omega (arith, counted, c.if-bean_count-gt-MAX_BEANS.false) in
    decided classes c.args.types.now _ o.all c.in_ok-observers.observers 18446744073709551615 few o.is o.counted (omega arith) refl
