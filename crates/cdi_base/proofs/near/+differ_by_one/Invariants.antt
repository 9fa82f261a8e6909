-- Each call goes on behind the first byte of the text.
use Rattle.std.proofs.Common.{length}
use Rattle.cdi_base.proofs.near.+differ_by_one.Given as goal

abbrev pub decreases-differ_by_one : goal.decreases-differ_by_one
decreases-differ_by_one l = length l.text.now
