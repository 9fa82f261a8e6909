use Rattle.std.proofs.Common.{◌≡◌, ◌<◌, ◌++◌, [], false, true, set, length, take, drop, replicate, rules}
use Rattle.std.proofs.lemmas.List.Elements.{Contains-push}
use Rattle.cdi_paths.specs.declared.finish_order.Step.TheVariants.{Enter}
use Rattle.cdi_paths.proofs.Order.{order_begins, order_ends, step_left, step_into, step_into_falls}
use Rattle.cdi_paths.proofs.Rows.{written_back}
use Rattle.cdi_paths.proofs.finish_order.finish_order.Goals as goal

pub loop-step-init : goal.loop-step-init
loop-step-init c =
    let graph = c.args.graph.now in
    let none : c.in_ok-marks.marks.items ≡ replicate (length graph) false = search rules in
    let order : c.new-order.result.items ≡ [] = search rules in
    record { ordering = rw (none, order) (order_begins graph c.in_ok-steps.steps.items c.in_ok-steps.ensures) }

pub enter-requires-clause-node : goal.enter-requires-clause-node
enter-requires-clause-node c =
    let i = c.loop-step in
    let popped = rw (c.in-Some.ensures.items, c.in-Enter.is) at i.invariant.ordering in
    popped.within (Enter c.in-Enter.node) (Contains-push c.pop.new.self.items (Enter c.in-Enter.node))

pub loop-step-preserved-in-Continue-branch-3 : goal.loop-step-preserved-in-Continue-branch-3
loop-step-preserved-in-Continue-branch-3 c =
    let i = c.loop-step in
    let graph = c.args.graph.now in
    let node = c.in-Enter.node in
    let old = i.marks in
    let new = c.enter.new.marks in
    let popped = rw (c.in-Some.ensures.items, c.in-Enter.is) at i.invariant.ordering in
    let within : node < length graph = popped.within (Enter node) (Contains-push c.pop.new.self.items (Enter node)) in
    let lent : c.as_mut_slice.result.now ≡ old.items = c.as_mut_slice.ensures.value in
    let marked : new ≡ set old.items node true = rw lent at c.in_ok-enter-in-Enter.ensures.marks in
    let after = rw lent at c.in_ok-enter-in-Enter.ensures.steps in
    let back : take old.len (new ++ drop (length new) old.items) ≡ new = written_back old.len new old.items (search rules) (search rules) in
    record { ordering = rw back (step_into graph old.items new c.pop.new.self.items c.enter.new.steps.items i.order.items node c.requires popped marked after) }

pub loop-step-smaller-in-Continue-branch-3 : goal.loop-step-smaller-in-Continue-branch-3
loop-step-smaller-in-Continue-branch-3 c =
    let i = c.loop-step in
    let graph = c.args.graph.now in
    let node = c.in-Enter.node in
    let old = i.marks in
    let new = c.enter.new.marks in
    let popped = rw (c.in-Some.ensures.items, c.in-Enter.is) at i.invariant.ordering in
    let within : node < length graph = popped.within (Enter node) (Contains-push c.pop.new.self.items (Enter node)) in
    let lent : c.as_mut_slice.result.now ≡ old.items = c.as_mut_slice.ensures.value in
    let marked : new ≡ set old.items node true = rw lent at c.in_ok-enter-in-Enter.ensures.marks in
    let after = rw lent at c.in_ok-enter-in-Enter.ensures.steps in
    let back : take old.len (new ++ drop (length new) old.items) ≡ new = written_back old.len new old.items (search rules) (search rules) in
    rw (back, c.in-Some.ensures.items, c.in-Enter.is) (step_into_falls graph old.items new c.pop.new.self.items c.enter.new.steps.items i.order.items node c.requires popped marked after)

pub loop-step-preserved : goal.loop-step-preserved
loop-step-preserved c =
    let i = c.loop-step in
    let popped = rw (c.in-Some.ensures.items, c.in-Leave.is) at i.invariant.ordering in
    record { ordering = rw c.in_ok-push-in-Leave.ensures.items (step_left c.args.graph.now i.marks.items c.pop.new.self.items i.order.items c.in-Leave.node popped) }

pub returns : goal.returns
returns c =
    let i = c.loop-step in
    let none : i.steps.items ≡ [] = search rules in
    order_ends c.args.graph.now i.marks.items i.order.items (rw none at i.invariant.ordering)
