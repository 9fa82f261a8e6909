use Rattle.std.proofs.Common.{◌≢◌, map, length, sym}
use Rattle.std.proofs.Math.ListN.{length-map}
use Rattle.cdi_quals.specs.Qualifiers.{full_member}
use Rattle.cdi_quals.proofs.Pairs.{apart_by_length}
use Rattle.cdi_event_tables.proofs.required.agree.Goals as goal

pub returns-then-members-required : goal.returns-then-members-required
returns-then-members-required c =
    let full = map (full_member c.args.given.now) c.args.members.now in
    let apart : length c.args.required.now ≢ length full = rw length-map (λ e. c.if-members-required.true (sym e)) in
    sym (apart_by_length c.args.required.now full apart)
