use Rattle.std.proofs.Common.{length}
use Rattle.cdi_script.proofs.part.Parts.+read_all.Given as goal

abbrev pub decreases-read_all : goal.decreases-read_all
decreases-read_all l = length l.kinds.now
