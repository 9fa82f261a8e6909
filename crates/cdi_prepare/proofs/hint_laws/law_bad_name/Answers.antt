use Rattle.std.proofs.Common.{ap}
use Rattle.std.specs.Option.{is_none}
use Rattle.cdi_form.proofs.NamePlaces.{IsBadName, bad-name}
use Rattle.cdi_form.specs.Names.{first_bad_name}
use Rattle.cdi_prepare.proofs.Options.{none_of}
use Rattle.cdi_prepare.proofs.hint_laws.law_bad_name.Goals as goal

pub returns-clause-none : goal.returns-clause-none
returns-clause-none c = λ d part. (λ none. ap is_none none, none_of (first_bad_name d part))

pub returns-clause-some : goal.returns-clause-some
returns-clause-some c = λ d part s found. let bad : IsBadName s part d = bad-name d part s found in (bad.stands, bad.is_none)
