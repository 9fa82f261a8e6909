use Rattle.std.proofs.Common.{◌≡◌, drop, None}
use Rattle.cdi_resolve.specs.Narrowing.{left_in}
use Rattle.cdi_resolve.specs.declared.filter.Left.TheVariants as lefts
use Rattle.cdi_resolve.proofs.Counting.{highest_with}
use Rattle.cdi_resolve.proofs.question.Question.highest_priority.Given as goal

abbrev pub invariant-loop-index : goal.invariant-loop-index
invariant-loop-index l = highest_with l.found (left_in l.self lefts.Alternatives (drop l.index-index l.self.row.now)) ≡ highest_with None (left_in l.self lefts.Alternatives l.self.row.now)
