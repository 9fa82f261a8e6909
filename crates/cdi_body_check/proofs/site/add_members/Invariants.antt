use Rattle.std.proofs.Common.{◌≡◌, ◌++◌, take}
use Rattle.std.specs.List.{filter_map}
use Rattle.cdi_body_check.specs.Sites.{member_site, shown}
use Rattle.cdi_body_check.proofs.site.add_members.Given as goal

abbrev pub invariant-loop-member : goal.invariant-loop-member
invariant-loop-member l = shown l.sites.items ≡ shown l.initial.sites.items ++ filter_map (member_site l.class) (take l.member-index l.member-items)
