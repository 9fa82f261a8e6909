-- The tables of each deployment that was read with its scripts are well formed.
use Rattle.std.proofs.Common.{ℕ, ◌&&◌, List, Result, Ok, Err, IfOk, sym, subst}
use Rattle.std.proofs.lemmas.Bool.{and_from}
use Rattle.cdi_prepare.specs.Ready.{Readied, readied_in}
use Rattle.cdi_run_tables.specs.Numbered.{is_numbered}
use Rattle.cdi_run_tables.specs.Sizes.{is_small}
use Rattle.cdi_run_tables.specs.Texts.{has_texts}
use Rattle.cdi_report.specs.Facts.{HasFacts}
use Rattle.cdi_report.specs.WellFormed.{IsWellFormed}
use Rattle.cdi_report.proofs.Facts.{have_texts, reads_facts}
use Rattle.cdi_report.proofs.NumberedTables.{tables_are_numbered}
use Rattle.cdi_report.proofs.SmallTables.{tables_are_small}

-- they have texts, are numbered and are small
well_formed : (r : Readied) → HasFacts r.deployment → IsWellFormed r
well_formed r facts t same tabled =
    let own : HasFacts t.deployment = subst HasFacts (sym same) facts in
    and_from (has_texts t.deployment && is_numbered t) (is_small t)
    (and_from (has_texts t.deployment) (is_numbered t) (have_texts t.deployment own)
    (tables_are_numbered t tabled own.limits))
    (tables_are_small t tabled own.limits)

-- so is all that was read
pub reads_well_formed : (bytes : List ℕ) → IfOk (readied_in bytes) IsWellFormed
reads_well_formed bytes = by (readied_in bytes) (reads_facts bytes)
  where
    by : (found : Result Readied (List ℕ)) → IfOk found (λ r. HasFacts r.deployment)
        → IfOk found IsWellFormed
    by (Ok r) facts = well_formed r facts
    by (Err line) facts = tt
