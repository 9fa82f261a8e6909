use Rattle.std.proofs.Common.{◌≡◌}
use Rattle.cdi_program.proofs.Taking.{Taking}
use Rattle.cdi_program.proofs.input.read_up_to.Given as goal

abbrev pub invariant-loop-left : goal.invariant-loop-left
invariant-loop-left g l =
    Taking l.most l.left (g.R.Source.unread l.initial.input) (g.R.Source.unread l.input) l.bytes.items
    × (g.R.Source.has_failed l.input ≡ g.R.Source.has_failed l.initial.input)

abbrev pub decreases-loop-left : goal.decreases-loop-left
decreases-loop-left g l = l.left
