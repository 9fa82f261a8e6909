use Rattle.std.proofs.Common.{length}
use Rattle.cdi_form_mistakes.proofs.steps.+part_mistake.Given as goal

abbrev pub decreases-part_mistake : goal.decreases-part_mistake
decreases-part_mistake l = length l.kinds.now
