use Rattle.std.proofs.Common.{◌∙◌, ap}
use Rattle.cdi_base.specs.Maps.{at}
use Rattle.cdi_machine.specs.World.{Invocation}
use Rattle.cdi_host.proofs.invocation.Invocation.data_at.Goals as goal

pub returns-in-Some : goal.returns-in-Some
returns-in-Some c =
    (rw c.deref.ensures at c.value_in.ensures)
    ∙ ap (λ (i : Invocation). at i.data_of c.args.key) (rw c.in-Some.is at c.self.view_is)
