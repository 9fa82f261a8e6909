use Rattle.std.proofs.Common.{true≢false, sym}
use Rattle.cdi_types.specs.Index.{place_in}
use Rattle.cdi_types.proofs.Refined.{below_told, not_below}
use Rattle.cdi_types.proofs.graph.TypeGraph.is_cyclic.Goals as goal

pub returns-in-Some : goal.returns-in-Some
returns-in-Some c =
    let i = c.self.inside in
    rw (← c.self.view_is) (below_told i.types (place_in i.index) c.self.invariant.places _ c.self.invariant.edges c.is_on_cycle.result c.args.name c.args.name c.in-Some.place c.in-Some.place c.in-Some.ensures c.in-Some.ensures c.is_on_cycle.ensures)

pub returns-in-None : goal.returns-in-None
returns-in-None c =
    let i = c.self.inside in
    rw (← c.self.view_is) (
      λ h. absurd (true≢false (sym h)),
      λ s. absurd (not_below i.types (place_in i.index) c.self.invariant.places c.args.name c.args.name (sym c.in-None.ensures) s),
    )
