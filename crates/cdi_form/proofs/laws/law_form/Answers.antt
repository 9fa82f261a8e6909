use Rattle.cdi_form.proofs.Forms.{form-of, nothing_wrong}
use Rattle.cdi_form.proofs.laws.law_form.Goals as goal

pub returns : goal.returns
returns c = λ part d. (form-of d part, nothing_wrong part d)
