use Rattle.std.proofs.Common.{◌≡◌, ◌∙◌, ◌-◌, length, false, true, sym, rules}
use Rattle.std.specs.Prelude.{is_some}
use Rattle.cdi_paths.specs.CycleThrough.{hop_of}
use Rattle.cdi_paths.proofs.FoundCycle.{rounds_done, rounds_left}
use Rattle.cdi_paths.proofs.found_cycle.hops_to.Goals as goal

pub returns-then-is_some : goal.returns-then-is_some
returns-then-is_some c =
    let hops = c.loop.hops.items in
    let known : is_some (hop_of hops c.args.goal) ≡ true = search rules in
    sym (rounds_done c.args.goal c.args.graph.now (length c.args.graph.now - c.loop.counter) hops known) ∙ c.loop.invariant

pub loop-preserved : goal.loop-preserved
loop-preserved c =
    let hops = c.loop.hops.items in
    let unknown : is_some (hop_of hops c.args.goal) ≡ false = search rules in
    rw (c.in_ok-hops-2.ensures, c.as_slice-in-loop.ensures.value) (rounds_left c.args.goal c.args.graph.now (length c.args.graph.now) c.loop.counter hops c.loop-test.true unknown ∙ c.loop.invariant)
