use Rattle.std.proofs.Common.{◌≡◌, false, take}
use Rattle.std.specs.List.{list_any}
use Rattle.cdi_bodies.specs.Table.{entries_of}
use Rattle.cdi_body_check.specs.Shapes.{shape_of}
use Rattle.cdi_body_check.specs.Sites.{site_of}
use Rattle.cdi_shape_check.specs.AskedParts.{site_asks}
use Rattle.cdi_shape_check.proofs.asked.some_asks.Given as goal

abbrev pub invariant-loop-site : goal.invariant-loop-site
invariant-loop-site g l = list_any (λ s. site_asks l.part l.tables.application.now.live.now (shape_of (entries_of l.tables.bodies.now)) (site_of s)) (take l.site-index l.sites) ≡ false
