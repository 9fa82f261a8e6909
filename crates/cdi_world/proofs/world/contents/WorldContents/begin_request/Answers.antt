use Rattle.std.proofs.Common.{◌∙◌, ap, Some}
use Rattle.cdi_contexts.specs.Contexts.{Contexts, Environment}
use Rattle.cdi_contexts.specs.Standing.{with_begun}
use Rattle.cdi_machine.specs.World.{World}
use Rattle.cdi_world.specs.contracts.world.World.{the_view}
use Rattle.cdi_world.proofs.Begun.{begun}
use Rattle.cdi_world.proofs.world.contents.WorldContents.begin_request.Goals as goal

pub returns-clause-begun : goal.returns-clause-begun
returns-clause-begun c =
    let with = λ (w : World) (contexts : Contexts) (environment : Environment). let v : World = record w { contexts = contexts; environment = environment } in v in
    let request = c.args.request in
    let session = c.args.session in
    ap (λ contexts. with (the_view c.self.inside) contexts c.new.result) c.in_ok-opens.ensures.begun
    ∙ ap (λ e. with (the_view c.self.inside) (with_begun request session c.self.inside.contexts.contexts) e) c.new.ensures
    ∙ ap (λ w. with w (with_begun request session w.contexts) (record { request = Some request; session = session })) c.self.view_is
    ∙ begun c.args.self.now request session c.requires
