use Rattle.std.proofs.Common.{◌∙◌, sym, subst, List, ℕ}
use Rattle.cdi_paths.specs.Graph.{IsGraph}
use Rattle.cdi_types.specs.Index.{place_in}
use Rattle.cdi_types.proofs.Refined.{is_graph}
use Rattle.cdi_types.proofs.graph.TypeGraph.of.Goals as goal

pub build-requires-2 : goal.build-requires-2
build-requires-2 c =
    let places = rw (c.as_slice.ensures, ← c.as_slice-2.ensures) at c.in_ok-index.ensures in
    let P : List (List ℕ) → Type 0 = IsGraph in
    subst P (sym c.in_ok-graph.ensures) (is_graph c.as_slice-2.result.now (place_in c.in_ok-index.index) places)

pub invariant_of-result : goal.invariant_of-result
invariant_of-result c = record {
  places = rw c.as_slice.ensures at c.in_ok-index.ensures;
  firsts = rw c.as_slice-3.ensures at c.in_ok-firsts.ensures;
  superclasses = rw c.as_slice-4.ensures at c.in_ok-superclasses.ensures;
  edges = c.in_ok-reachability.ensures ∙ (rw c.as_slice-2.ensures at c.in_ok-graph.ensures);
}
