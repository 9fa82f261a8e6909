use Rattle.cdi_types.proofs.graph.TypeGraph.is_below.Goals as goal

pub returns : goal.returns
returns c =
    let told = c.is_below_from.ensures c.args.name c.args.above c.place.ensures c.place-2.ensures in
    (λ h. (told.0 h).1, λ s. told.1 (c.requires, s))
