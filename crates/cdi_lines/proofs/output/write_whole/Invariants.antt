-- What is gone from `rest` was appended, and whatever comes of writing `rest` comes of writing all.
use Rattle.std.proofs.Common.{◌≡◌, ℕ, List, ◌++◌, length}
use Rattle.std.specs.Io.KnownBytes.{Appends}
use Rattle.cdi_lines.proofs.Writing.{Continues}
use Rattle.cdi_lines.proofs.output.write_whole.Given as goal

abbrev pub invariant-loop-rest : goal.invariant-loop-rest
invariant-loop-rest g l =
    (done : List ℕ) × (l.initial.rest ≡ done ++ l.rest)
    × Appends (g.W.Writer.contents l.initial.writer) (g.W.Writer.contents l.writer) done
    × Continues g.W.Writer.writes l.initial.writer l.initial.rest l.writer l.rest

abbrev pub decreases-loop-rest : goal.decreases-loop-rest
decreases-loop-rest g l = length l.rest
