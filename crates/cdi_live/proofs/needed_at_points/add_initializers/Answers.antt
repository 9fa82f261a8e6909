use Rattle.std.proofs.Common.{◌∙◌, ◌++◌, ap, sym, append-nil}
use Rattle.std.specs.List.{filter_map, flat_map}
use Rattle.cdi_live.specs.Needs.{needed_at}
use Rattle.cdi_live.specs.OwnPoints.{initializer_points}
use Rattle.cdi_live.specs.Settings.{setting_of}
use Rattle.cdi_live.proofs.Growing.{grows, flat_mapped}
use Rattle.cdi_live.proofs.needed_at_points.add_initializers.Goals as goal

pub loop-member-preserved : goal.loop-member-preserved
loop-member-preserved c =
    let f = needed_at (setting_of c.args.tables.now) in
    grows (λ xs. filter_map f (flat_map initializer_points xs)) (flat_mapped f initializer_points) c.args.members.now c.loop-member.member-index c.member-item.result c.loop-member-test.true c.member-item.is c.args.needs.now c.loop-member.needs c.add_initializer.new.needs c.loop-member.invariant (c.in_ok-add_initializer.ensures ∙ ap (λ ps. c.loop-member.needs ++ filter_map f ps) (sym (append-nil (initializer_points c.member-item.result))))
