use Rattle.std.proofs.Common.{subst}
use Rattle.cdi_live.specs.PointProblems.{HasPointProblem}
use Rattle.cdi_problems.specs.Findings.{ArePlacesOf}
use Rattle.cdi_check.proofs.late.point_places.Goals as goal

pub returns : goal.returns
returns c =
    let t = c.args.tables.now in
    subst (λ es. ArePlacesOf (HasPointProblem c.args.problem t.beans.now.declared.qualifiers t.live.now) es c.in_ok-places.places) c.requires
    c.in_ok-places.ensures
