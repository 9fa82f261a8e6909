use Rattle.std.proofs.Common.{◌∙◌, ap}
use Rattle.cdi_store.specs.Live.{with_ready}
use Rattle.cdi_contexts.proofs.Slots.{ok_then}
use Rattle.cdi_machine.specs.World.{with_instances}
use Rattle.cdi_world.proofs.Homes.{settled}
use Rattle.cdi_world.proofs.world.contents.WorldContents.settle.Goals as goal

pub returns-clause-ok : goal.returns-clause-ok
returns-clause-ok c =
    ok_then c.set_ready.result _ _ c.set_ready.ensures.ok
    (λ is. is ∙ ap (with_instances (with_ready c.args.number)) c.in_ok-take_home.ensures.ok
    ∙ settled c.args.self.now c.args.number)
