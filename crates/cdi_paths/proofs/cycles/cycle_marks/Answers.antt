use Rattle.std.proofs.Common.{◌≡◌, ◌<◌, ◌∙◌, ◌++◌, [], false, true, length, length-set, take, drop, replicate, sym, ap, rules, arith}
use Rattle.std.proofs.lemmas.List.{get_or_default}
use Rattle.cdi_paths.specs.Marks.{is_marked}
use Rattle.cdi_paths.proofs.Groups.{sorting_begins, sorting_ends, root_within, root_skipped, root_seen}
use Rattle.cdi_paths.proofs.Rows.{written_back}
use Rattle.cdi_paths.proofs.cycles.cycle_marks.Goals as goal

pub loop-root-init : goal.loop-root-init
loop-root-init c =
    let graph = c.args.graph.now in
    let seen : c.in_ok-seen.seen.items ≡ replicate (length graph) false = search rules in
    let on_cycle : c.in_ok-on_cycle.on_cycle.items ≡ replicate (length graph) true = search rules in
    record { sorting = rw (seen, on_cycle) (sorting_begins graph c.in_ok-sources.sources.items c.in_ok-order.order.items c.in_ok-order.ensures) }

pub index-requires : goal.index-requires
index-requires c =
    let i = c.loop-root in
    let popped = rw c.in-Some.ensures.items at i.invariant.sorting in
    let within : c.in-Some.root < length c.args.graph.now = root_within c.args.graph.now c.in_ok-sources.sources.items c.pop.new.self.items c.in-Some.root i.seen.items i.on_cycle.items popped in
    let len : length i.seen.items ≡ length c.args.graph.now = popped.seen_len in
    search rules

pub index_mut-requires : goal.index_mut-requires
index_mut-requires c =
    let i = c.loop-root in
    let popped = rw c.in-Some.ensures.items at i.invariant.sorting in
    let within : c.in-Some.root < length c.args.graph.now = root_within c.args.graph.now c.in_ok-sources.sources.items c.pop.new.self.items c.in-Some.root i.seen.items i.on_cycle.items popped in
    let len : length i.on_cycle.items ≡ length c.args.graph.now = popped.told_len in
    search rules

pub see_group-requires-clause-root : goal.see_group-requires-clause-root
see_group-requires-clause-root c =
    let i = c.loop-root in
    let popped = rw c.in-Some.ensures.items at i.invariant.sorting in
    let within : c.in-Some.root < length c.args.graph.now = root_within c.args.graph.now c.in_ok-sources.sources.items c.pop.new.self.items c.in-Some.root i.seen.items i.on_cycle.items popped in
    omega (arith, within, c.in_ok-sources.ensures.len, ap length c.as_slice.ensures.value)

pub see_group-requires-clause-closed : goal.see_group-requires-clause-closed
see_group-requires-clause-closed c = rw (c.as_slice.ensures.value, c.as_mut_slice.ensures.value) c.loop-root.invariant.sorting.closed

pub loop-root-preserved-then-not-index : goal.loop-root-preserved-then-not-index
loop-root-preserved-then-not-index c =
    let i = c.loop-root in
    let graph = c.args.graph.now in
    let sources = c.in_ok-sources.sources.items in
    let root = c.in-Some.root in
    let old = i.seen in
    let new = c.see_group.new.seen in
    let popped = rw c.in-Some.ensures.items at i.invariant.sorting in
    let within : root < length graph = root_within graph sources c.pop.new.self.items root old.items i.on_cycle.items popped in
    let read : c.index.result.now ≡ is_marked old.items root = c.index.ensures ∙ get_or_default old.items root c.index.result.now false (omega (arith, within, popped.seen_len)) in
    let not : is_marked old.items root ≡ false = sym read ∙ c.if-not-index.true in
    let group = rw (c.as_slice.ensures.value, c.as_mut_slice.ensures.value) at c.in_ok-on_cycle-2.ensures in
    let back : take old.len (new ++ drop (length new) old.items) ≡ new = written_back old.len new old.items (ap length group.new_is ∙ length-set group.walked root true ∙ group.len) (search rules) in
    record { sorting = rw back (root_seen graph sources c.pop.new.self.items root old.items i.on_cycle.items popped c.in_ok-sources.ensures new c.in_ok-on_cycle-2.field-0 not group) }

pub loop-root-preserved : goal.loop-root-preserved
loop-root-preserved c =
    let i = c.loop-root in
    let graph = c.args.graph.now in
    let sources = c.in_ok-sources.sources.items in
    let root = c.in-Some.root in
    let popped = rw c.in-Some.ensures.items at i.invariant.sorting in
    let within : root < length graph = root_within graph sources c.pop.new.self.items root i.seen.items i.on_cycle.items popped in
    let read : c.index.result.now ≡ is_marked i.seen.items root = c.index.ensures ∙ get_or_default i.seen.items root c.index.result.now false (omega (arith, within, popped.seen_len)) in
    record { sorting = root_skipped graph sources c.pop.new.self.items root i.seen.items i.on_cycle.items popped (sym read ∙ c.if-not-index.false) }

pub returns : goal.returns
returns c =
    let i = c.loop-root in
    let none : i.order.items ≡ [] = search rules in
    sorting_ends c.args.graph.now c.in_ok-sources.sources.items i.seen.items i.on_cycle.items (rw none at i.invariant.sorting)
