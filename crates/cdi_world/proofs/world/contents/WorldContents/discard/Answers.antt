use Rattle.std.proofs.Common.{◌∙◌, ap}
use Rattle.cdi_base.specs.Maps.{without}
use Rattle.cdi_machine.specs.World.{with_instances}
use Rattle.cdi_world.proofs.Homes.{discarded}
use Rattle.cdi_world.proofs.world.contents.WorldContents.discard.Goals as goal

pub returns : goal.returns
returns c =
    c.remove.ensures ∙ ap (with_instances (without c.args.number)) c.leave_context.ensures
    ∙ discarded c.args.self.now c.args.number
