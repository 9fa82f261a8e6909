use Rattle.std.proofs.Common.{true}
use Rattle.cdi_enable.specs.Enabled.{Enabled, Specializes}
use Rattle.cdi_enable.proofs.Two.{AtMostOne}
use Rattle.cdi_enable.proofs.enabled_managed.EnabledManaged.inconsistent.Given as goal

abbrev pub invariant-loop-other : goal.invariant-loop-other
invariant-loop-other l = AtMostOne (λ x. Enabled l.self x true × Specializes l.self x l.bean) l.seen l.other
