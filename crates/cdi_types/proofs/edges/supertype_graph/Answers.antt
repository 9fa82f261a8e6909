use Rattle.std.proofs.Common.{◌∙◌}
use Rattle.std.proofs.lemmas.Result.{IfOk-weaker}
use Rattle.cdi_types.specs.Index.{place_in}
use Rattle.cdi_types.specs.Nodes.{place_of}
use Rattle.cdi_types.proofs.SameGraph.{same_graph}
use Rattle.cdi_types.proofs.edges.supertype_graph.Goals as goal

pub returns : goal.returns
returns c =
    let types = c.args.types.now in
    IfOk-weaker c.graph_of.result _ _ (λ graph is. is ∙ same_graph (place_in c.in_ok-index.index) (place_of types) c.in_ok-index.ensures types) c.graph_of.ensures
