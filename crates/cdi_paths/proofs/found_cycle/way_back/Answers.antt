use Rattle.std.proofs.Common.{◌≡◌, ◌==◌, ◌∙◌, length, Some, false, rules}
use Rattle.cdi_paths.specs.CycleThrough.{hop_of}
use Rattle.cdi_paths.proofs.FoundCycle.{way_left}
use Rattle.cdi_paths.proofs.found_cycle.way_back.Goals as goal

pub loop-preserved : goal.loop-preserved
loop-preserved c =
    let hops = c.args.hops.now in
    let hop : hop_of hops c.loop.last ≡ Some c.in-Some.next = search rules in
    let other : (c.in-Some.next == c.args.goal) ≡ false = search rules in
    rw c.in_ok-push-2.ensures.ok (way_left c.args.goal hops (length hops) c.loop.counter c.loop.last c.in-Some.next c.loop.nodes c.loop-test.true hop other ∙ c.loop.invariant)
