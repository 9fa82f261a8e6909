use Rattle.cdi_form_mistakes.proofs.FormPlaces.{form-place}
use Rattle.cdi_form_mistakes.proofs.NamesFound.{name-found}
use Rattle.cdi_form_mistakes.proofs.NumbersFound.{number-found}
use Rattle.cdi_form_mistakes.proofs.laws.law_mistakes.Goals as goal

pub returns-clause-form : goal.returns-clause-form
returns-clause-form c = form-place

pub returns-clause-number : goal.returns-clause-number
returns-clause-number c = number-found

pub returns-clause-name : goal.returns-clause-name
returns-clause-name c = name-found
