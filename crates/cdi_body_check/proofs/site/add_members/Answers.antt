use Rattle.std.proofs.Common.{◌∙◌, option_map, sym, ap}
use Rattle.cdi_body_check.specs.Sites.{site_of, shown, member_site}
use Rattle.cdi_body_check.proofs.SiteSteps.{one_site, no_site}
use Rattle.cdi_body_check.proofs.site.add_members.Goals as goal
use Rattle.cdi_body_check.proofs.site.add_members.Goals.{in-Some+in_ok-push, in_default}

pub loop-member-preserved : goal.loop-member-preserved
loop-member-preserved c =
    let l = c.loop-member in
    elim c.match-member_site.branch [
      | in-Some+in_ok-push w ↦ rw w.sites-is (rw w.in_ok-push.ensures.items (one_site (member_site c.args.class.now) c.as_slice-member-items.result.now l.member-index c.member-item.result c.loop-member-test.true c.member-item.is
          (shown c.args.sites.now.items) l.sites.items l.invariant w.in-Some.site (sym c.member_site.ensures ∙ ap (option_map site_of) w.in-Some.is)))
      | in_default w ↦ rw w.sites-is (no_site (member_site c.args.class.now) c.as_slice-member-items.result.now l.member-index c.member-item.result c.loop-member-test.true c.member-item.is
          (shown c.args.sites.now.items) l.sites.items l.invariant (sym c.member_site.ensures ∙ ap (option_map site_of) w.in_default.is))
    ]
