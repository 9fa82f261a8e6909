use Rattle.std.proofs.Common.{◌∙◌, ap}
use Rattle.cdi_store.specs.Live.{with_leaving}
use Rattle.cdi_machine.specs.World.{with_instances}
use Rattle.cdi_world.proofs.Homes.{left}
use Rattle.cdi_world.proofs.world.contents.WorldContents.leave.Goals as goal

pub returns : goal.returns
returns c =
    c.set_leaving.ensures ∙ ap (with_instances (with_leaving c.args.number)) c.leave_home.ensures
    ∙ left c.args.self.now c.args.number
