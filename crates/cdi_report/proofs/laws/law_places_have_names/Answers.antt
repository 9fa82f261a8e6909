use Rattle.cdi_report.proofs.PlaceNames.{places_have_names}
use Rattle.cdi_report.proofs.laws.law_places_have_names.Goals as goal

pub returns : goal.returns
returns c = places_have_names c.law_reads_facts.ensures
