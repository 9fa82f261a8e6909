use Rattle.cdi_enable.proofs.Free.{enabled_flag}
use Rattle.cdi_enable.proofs.enabled_managed.EnabledManaged.contains.Goals as goal

pub returns : goal.returns
returns c = rw (c.has_flag.ensures, c.as_slice.ensures, ← c.self.view_is) (enabled_flag c.self.inside.beans c.self.invariant c.args.bean)
