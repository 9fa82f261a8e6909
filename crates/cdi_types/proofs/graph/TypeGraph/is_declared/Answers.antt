use Rattle.std.proofs.Common.{◌∙◌, ap, nat_eq}
use Rattle.std.specs.Option.{is_some}
use Rattle.cdi_types.proofs.Places.{is_some-position}
use Rattle.cdi_types.proofs.graph.TypeGraph.is_declared.Goals as goal

pub returns : goal.returns
returns c = c.is_some.ensures ∙ ap is_some c.place.ensures ∙ is_some-position (λ d. nat_eq d.name c.args.name) c.args.self.now
