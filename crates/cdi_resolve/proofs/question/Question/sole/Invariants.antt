use Rattle.std.proofs.Common.{◌≡◌, drop}
use Rattle.cdi_resolve.specs.Narrowing.{left_in}
use Rattle.cdi_resolve.specs.Resolution.{sole}
use Rattle.cdi_resolve.proofs.Counting.{found_with}
use Rattle.cdi_resolve.proofs.question.Question.sole.Given as goal

abbrev pub invariant-loop-index : goal.invariant-loop-index
invariant-loop-index l = found_with l.found (left_in l.self l.left (drop l.index-index l.self.row.now)) ≡ sole (left_in l.self l.left l.self.row.now)
