use Rattle.std.proofs.Common.{◌≡◌, ◌∙◌, ℕ, ◌+◌, false, List, replicate, take, rules, sym}
use Rattle.std.specs.List.{filter_map}
use Rattle.cdi_live.specs.Graphs.{Counts, number_of}
use Rattle.cdi_live.proofs.RowNumbers.{none_yet, number_more, with_number, without_number}
use Rattle.cdi_live.proofs.Rows.{number_below}
use Rattle.cdi_live.proofs.graph.Counts.numbers_of.Goals as goal
use Rattle.cdi_live.proofs.graph.Counts.numbers_of.Goals.{in-Some+in_ok-add_number, in_default}

pub loop-node-init : goal.loop-node-init
loop-node-init c =
    let count = c.args.self.beans + c.args.self.interceptors in
    let none : c.in_ok-listed.listed.items ≡ replicate count false = search rules in
    rw (none, c.empty-row.ensures) (none_yet count)

pub loop-node-preserved : goal.loop-node-preserved
loop-node-preserved c =
    let n : Counts = record { beans = c.args.self.beans; interceptors = c.args.self.interceptors } in
    let nodes = c.args.nodes.now in
    let at = c.loop-node in
    let i = at.node-index in
    let so_far : List ℕ = filter_map (number_of n) (take i nodes) in
    elim c.match-number_of.branch [
      | in-Some+in_ok-add_number w ↦
          let x = w.in-Some.number in
          let is = sym c.number_of.ensures ∙ w.in-Some.is in
          let added = w.in_ok-add_number.ensures in
          rw (w.listed-is, w.row-is, added.flags, added.row, with_number (number_of n) nodes i _ c.loop-node-test.true x is)
          (number_more (n.beans + n.interceptors) so_far at.listed.items at.row at.invariant x (number_below n _ x is))
      | in_default w ↦ rw (w.listed-is, w.row-is, without_number (number_of n) nodes i _ c.loop-node-test.true (sym c.number_of.ensures ∙ w.in_default.is)) at.invariant
    ]
