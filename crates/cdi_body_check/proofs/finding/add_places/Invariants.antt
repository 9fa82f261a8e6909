use Rattle.std.proofs.Common.{take}
use Rattle.cdi_body_check.specs.Findings.{AddsPlacesOf}
use Rattle.cdi_body_check.specs.Sites.{shown}
use Rattle.cdi_body_check.proofs.finding.add_places.Given as goal

abbrev pub invariant-loop-site : goal.invariant-loop-site
invariant-loop-site g l = AddsPlacesOf (g.R.SiteRule.holds_at l.rule) (shown (take l.site-index l.sites)) l.initial.found l.found
