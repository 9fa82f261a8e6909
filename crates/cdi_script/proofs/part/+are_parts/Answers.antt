use Rattle.std.proofs.Common.{◌∙◌}
use Rattle.cdi_script.proofs.Lists.{none_left}
use Rattle.cdi_script.proofs.part.+are_parts.Goals as goal

pub returns-in_default : goal.returns-in_default
returns-in_default t c = c.is_empty.ensures ∙ none_left c.args.kinds.now c.args.values.now c.in_default.ensures.cases
