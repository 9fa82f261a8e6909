use Rattle.std.proofs.Common.{◌≢◌, map, length, sym}
use Rattle.std.proofs.Math.ListN.{length-map}
use Rattle.cdi_quals.specs.Qualifiers.{full_member}
use Rattle.cdi_quals.proofs.Pairs.{apart_by_length}
use Rattle.cdi_resolve.proofs.required.agree.Goals as goal

pub returns-then-members-own : goal.returns-then-members-own
returns-then-members-own c =
    let full = map (full_member c.args.given.now) c.args.members.now in
    let apart : length full ≢ length c.args.own.now = rw length-map c.if-members-own.true in
    sym (apart_by_length full c.args.own.now apart)
