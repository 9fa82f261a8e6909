use Rattle.cdi_form.proofs.NamePlaces.{IsBadName, bad-name, is_name-of_fitting, names_fit-of}
use Rattle.cdi_form.proofs.laws.law_names.Goals as goal

pub returns-clause-fit : goal.returns-clause-fit
returns-clause-fit c = λ part d. (λ fits s stands. is_name-of_fitting s part d stands fits, names_fit-of d part)

pub returns-clause-found : goal.returns-clause-found
returns-clause-found c = λ part d s found. let bad : IsBadName s part d = bad-name d part s found in (bad.stands, bad.is_none)
