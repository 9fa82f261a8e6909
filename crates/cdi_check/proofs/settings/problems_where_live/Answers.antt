use Rattle.std.proofs.Common.{subst}
use Rattle.cdi_bodies.specs.Table.{entries_of}
use Rattle.cdi_body_check.specs.Shapes.{shape_of}
use Rattle.cdi_live.specs.Enabled.{Enabled}
use Rattle.cdi_check.specs.Late.{AreProblemsIn}
use Rattle.cdi_check.proofs.settings.problems_where_live.Goals as goal

pub returns : goal.returns
returns g c =
    let t = c.args.beans.now in
    let d = c.args.deployment.now in
    let P : Enabled → Type 0 =
    λ enabled. AreProblemsIn d (shape_of (entries_of c.args.bodies.now)) t.enabled
    (record { qualifiers = t.declared.qualifiers; interceptors = d.interceptors; enabled = enabled; chains = t.chains; disposers = t.disposers })
    c.in_ok-problems.problems in
    subst P c.requires.live c.in_ok-problems.ensures
