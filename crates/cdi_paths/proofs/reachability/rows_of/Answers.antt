use Rattle.std.proofs.Common.{rules, ◌≡◌, ◌∙◌, ap, List, ℕ, [], ◌++◌, length, get_or, take, drop, add-one, arith}
use Rattle.std.proofs.lemmas.List.{get_or_default}
use Rattle.cdi_paths.proofs.Rows.{written_back, next_round}
use Rattle.cdi_paths.proofs.reachability.rows_of.Goals as goal

pub loop-node-preserved : goal.loop-node-preserved
loop-node-preserved c =
    let old : List (List ℕ) = c.loop-node.rows.items in
    let new : List (List ℕ) = c.go_through.new.rows in
    let node = c.loop-node.node in
    let len : c.loop-node.rows.len ≡ length old = search rules in
    let same : length new ≡ length old = omega (arith, ap length c.as_mut_slice.ensures.value) in
    let back : take c.loop-node.rows.len (new ++ drop (length new) old) ≡ new = written_back c.loop-node.rows.len new old same len in
    let inner : c.in_ok-inner.inner ≡ get_or old node [] = c.in_ok-inner.ensures ∙ c.index.ensures ∙ get_or_default old node c.index.result.now [] (omega arith) in
    record {
      len = c.loop-node.invariant.len;
      width = rw back (λ k d lt. c.go_through.ensures.width k d lt ∙ ap length inner ∙ c.loop-node.invariant.width node [] (omega arith));
      bits = rw (back, add-one) (next_round c.args.graph.now old new c.in_ok-inner.inner node inner c.loop-node.invariant.bits (rw c.as_mut_slice.ensures.value at c.go_through.ensures.bits));
    }
