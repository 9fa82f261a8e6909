use Rattle.cdi_check.proofs.late.outside_shape.Goals as goal

pub returns : goal.returns
returns g c = rw c.args.tables.now.application.now.same_beans at c.in_ok-places.ensures
