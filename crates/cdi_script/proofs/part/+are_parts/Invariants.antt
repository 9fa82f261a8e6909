use Rattle.std.proofs.Common.{length}
use Rattle.cdi_script.proofs.part.+are_parts.Given as goal

abbrev pub decreases-are_parts : goal.decreases-are_parts
decreases-are_parts l = length l.kinds.now
