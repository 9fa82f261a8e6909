-- Each call goes on behind the first byte of the text.
use Rattle.std.proofs.Common.{length}
use Rattle.cdi_base.proofs.near.+differ_by_two.Given as goal

abbrev pub decreases-differ_by_two : goal.decreases-differ_by_two
decreases-differ_by_two l = length l.text.now
