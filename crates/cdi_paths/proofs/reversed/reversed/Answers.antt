use Rattle.std.proofs.Common.{◌≡◌, ◌<◌, ◌∙◌, ◌++◌, [], length, take, drop, rules, arith}
use Rattle.std.proofs.lemmas.List.{get_or_read}
use Rattle.cdi_paths.specs.Graph.{targets_of}
use Rattle.cdi_paths.proofs.Rows.{written_back}
use Rattle.cdi_paths.proofs.Reversal.{node_more, all_below}
use Rattle.cdi_paths.proofs.reversed.reversed.Goals as goal

pub loop-node-preserved : goal.loop-node-preserved
loop-node-preserved c =
    let i = c.loop-node in
    let graph = c.args.graph.now in
    let new = c.add_source.new.rows in
    let lt : i.node < length graph = omega arith in
    let row : c.as_slice.result.now ≡ targets_of graph i.node = c.as_slice.ensures ∙ get_or_read graph i.node c.index-graph-node.result lt c.index-graph-node.is [] in
    let back : take i.rows.len (new ++ drop (length new) i.rows.items) ≡ new = written_back i.rows.len new i.rows.items (search rules) (search rules) in
    let added = rw (row, c.as_mut_slice.ensures.value) at c.in_ok-add_source.ensures in
    record { len = i.invariant.len; below = rw back (node_more graph i.node i.rows.items new i.invariant.below added) }

pub returns : goal.returns
returns c =
    let i = c.loop-node in
    let graph = c.args.graph.now in
    let all : i.node ≡ length graph = omega arith in
    all_below graph i.rows.items (search rules) (rw all at i.invariant.below)
