use Rattle.std.proofs.Common.{◌∙◌, ap, sym}
use Rattle.std.specs.Option.{is_none}
use Rattle.cdi_prepare.specs.BadStep.{bad_item_from}
use Rattle.cdi_prepare.proofs.Items.{steps_where_none}
use Rattle.cdi_prepare.proofs.Options.{none_of}
use Rattle.cdi_prepare.proofs.hint_laws.law_bad_step.Goals as goal

pub returns : goal.returns
returns c = λ items. (
  λ none. steps_where_none 0 items ∙ ap is_none none,
  λ steps. none_of (bad_item_from 0 items) (sym (steps_where_none 0 items) ∙ steps),
)
