use Rattle.std.proofs.Common.{take}
use Rattle.cdi_place_index.specs.PlaceIndex.{AreSiteRows}
use Rattle.cdi_body_check.specs.Sites.{shown}
use Rattle.cdi_place_index.proofs.index.site_rows.Given as goal

abbrev pub invariant-loop-site : goal.invariant-loop-site
invariant-loop-site l = AreSiteRows (shown (take l.site-index l.sites)) l.rows
