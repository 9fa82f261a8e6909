use Rattle.std.proofs.Common.{◌∙◌, codes}
use Rattle.cdi_form_mistakes.proofs.Mapped.{listed_texts}
use Rattle.cdi_form_mistakes.proofs.words.listed.Goals as goal

pub returns : goal.returns
returns c = c.new.ensures ∙ c.in_ok-join.ensures.ok ∙ listed_texts (codes ", ") c.args.words.now
