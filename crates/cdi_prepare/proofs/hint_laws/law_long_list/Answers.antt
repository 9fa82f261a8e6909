use Rattle.std.proofs.Common.{◌∙◌, ap, sym}
use Rattle.std.specs.Option.{is_none}
use Rattle.cdi_prepare.specs.LongList.{first_long_list}
use Rattle.cdi_prepare.proofs.LongLists.{deployment-none}
use Rattle.cdi_prepare.proofs.Options.{none_of}
use Rattle.cdi_prepare.proofs.hint_laws.law_long_list.Goals as goal

pub returns : goal.returns
returns c = λ d. (λ none. deployment-none d ∙ ap is_none none, λ within. none_of (first_long_list d) (sym (deployment-none d) ∙ within))
