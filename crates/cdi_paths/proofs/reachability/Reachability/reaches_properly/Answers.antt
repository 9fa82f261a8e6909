use Rattle.cdi_paths.proofs.Paths.{proper_test}
use Rattle.cdi_paths.proofs.reachability.Reachability.reaches_properly.Goals as goal

pub returns : goal.returns
returns c = rw (c.in_rows.ensures, c.as_slice.ensures.value, ← c.self.view_is) (proper_test c.self.invariant c.args.from c.args.to)
