use Rattle.std.proofs.Common.{◌≡◌, ◌<◌, ◌∙◌, [], length, rules, arith}
use Rattle.std.proofs.lemmas.List.{get_or_default}
use Rattle.cdi_paths.specs.Graph.{targets_of}
use Rattle.cdi_paths.proofs.Walks.{walk_ends, walk_goes_on, ahead_within}
use Rattle.cdi_paths.proofs.walk.mark_from.Goals as goal

pub loop-node-preserved : goal.loop-node-preserved
loop-node-preserved c =
    let i = c.loop-node in
    let graph = c.args.graph.now in
    let node = c.in-Some.node in
    let lt : node < length graph = ahead_within graph c.args.root c.args.marks.now i.marks i.ahead.items c.pop.new.self.items node c.requires.graph c.requires.root i.invariant.walking c.in-Some.ensures.items in
    let row : c.as_slice.result.now ≡ targets_of graph node = c.as_slice.ensures ∙ c.index-graph-node.is ∙ get_or_default graph node c.index-graph-node.result [] lt in
    let walking = rw c.in-Some.ensures.items at i.invariant.walking in
    let marked = rw row at c.in_ok-mark_targets.ensures in
    let len : length c.mark_targets.new.marks ≡ length i.marks = search rules in
    record { walking = walk_goes_on graph c.args.root c.args.marks.now i.marks c.mark_targets.new.marks c.pop.new.self.items c.mark_targets.new.ahead.items node walking len marked }

pub bounds-graph-node : goal.bounds-graph-node
bounds-graph-node c =
    let i = c.loop-node in
    ahead_within c.args.graph.now c.args.root c.args.marks.now i.marks i.ahead.items c.pop.new.self.items c.in-Some.node c.requires.graph c.requires.root i.invariant.walking c.in-Some.ensures.items

pub offset_bounds-graph-node : goal.offset_bounds-graph-node
offset_bounds-graph-node c =
    let i = c.loop-node in
    let lt : c.in-Some.node < length c.args.graph.now = ahead_within c.args.graph.now c.args.root c.args.marks.now i.marks i.ahead.items c.pop.new.self.items c.in-Some.node c.requires.graph c.requires.root i.invariant.walking c.in-Some.ensures.items in
    omega arith

pub mark_targets-requires : goal.mark_targets-requires
mark_targets-requires c =
    let i = c.loop-node in
    let graph = c.args.graph.now in
    let node = c.in-Some.node in
    let lt : node < length graph = ahead_within graph c.args.root c.args.marks.now i.marks i.ahead.items c.pop.new.self.items node c.requires.graph c.requires.root i.invariant.walking c.in-Some.ensures.items in
    let row : c.as_slice.result.now ≡ targets_of graph node = c.as_slice.ensures ∙ c.index-graph-node.is ∙ get_or_default graph node c.index-graph-node.result [] lt in
    let len : length i.marks ≡ length graph = i.invariant.walking.len ∙ c.requires.len in
    rw (row, len) (c.requires.graph node [] lt)

pub returns : goal.returns
returns c =
    let i = c.loop-node in
    let none : i.ahead.items ≡ [] = search rules in
    walk_ends c.args.graph.now c.args.root c.args.marks.now i.marks (rw none at i.invariant.walking)
