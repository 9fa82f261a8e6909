-- A deployment that was read with its scripts is within its limits and knows its names, in a table of names behind the built-in ones.
use Rattle.std.proofs.Common.{◌≡◌, ◌<◌, ℕ, zero, suc, true, List, [], ◌∷◌, length, Result, Ok, Err, IfOk, refl, sym, subst, arith}
use Rattle.std.proofs.lemmas.Bool.{and_from}
use Rattle.std.proofs.lemmas.List.Elements.{recursion_from_All}
use Rattle.cdi_base.proofs.Tables.{joins}
use Rattle.cdi_base.specs.BuiltIn.{built_in_names, number_of}
use Rattle.cdi_base.specs.declared.built_in.BuiltIn.TheVariants as built_in
use Rattle.cdi_base.specs.Name.{Extends}
use Rattle.cdi_deploy.proofs.Readable.{read-knows, read-within}
use Rattle.cdi_deploy.specs.Reading.{deployment_in, root}
use Rattle.cdi_deployment.specs.KnownNames.{KnowsNames}
use Rattle.cdi_deployment.specs.Limits.{is_within}
use Rattle.cdi_deployment.specs.declared.deployment.Deployment.{Deployment}
use Rattle.cdi_deployment.specs.declared.deployment.Exception.{Exception}
use Rattle.cdi_prepare.specs.Ready.{Readied, readied_in}
use Rattle.cdi_run_tables.specs.Texts.{has_text, has_texts}
use Rattle.cdi_report.specs.Facts.{HasFacts}
use Rattle.cdi_report.proofs.Each.{all_pass}
use Rattle.cdi_report.proofs.KeptTexts.{names-grow, text-stays}
use Rattle.cdi_report.proofs.KnownMore.{names-more}
use Rattle.cdi_report.proofs.ReadTables.{of-read}
use Rattle.cdi_report.proofs.Readied.{IsMadeFrom, if_read, made_from}
use Rattle.cdi_report.proofs.ScriptNames.{made-named}

module _ (bytes : List ℕ) where
  -- what was read begins with the built-in names
  read-begins : IfOk (deployment_in bytes) (λ d. Extends built_in_names d.names)
  read-begins = of-read (Extends built_in_names) (λ d. names-grow d built_in_names root) bytes

  module _ (r : Readied) (made : IsMadeFrom bytes r) where
    -- what holds of what was read
    of_read : (P : Deployment → Type 0) → IfOk (deployment_in bytes) P → P made.deployment
    of_read P h = if_read P (deployment_in bytes) made.deployment h made.was_read

    with_table : (P : Deployment → Type 0) → P (record made.deployment { names = made.names }) → P r.deployment
    with_table P h = subst P (sym made.is) h

    facts : HasFacts r.deployment
    facts = record {
      limits = with_table (λ (d : Deployment). is_within d ≡ true) (of_read (λ (d : Deployment). is_within d ≡ true) (read-within bytes));
      known = with_table KnowsNames (names-more made.deployment made.names made.more (of_read KnowsNames (read-knows bytes)));
      built_in = with_table (λ (d : Deployment). Extends built_in_names d.names)
          (joins (of_read (λ (d : Deployment). Extends built_in_names d.names) read-begins) made.more);
      texts = made-named bytes r made;
    }

  pub reads_facts : IfOk (readied_in bytes) (λ r. HasFacts r.deployment)
  reads_facts = by (readied_in bytes) refl
    where
      by : (found : Result Readied (List ℕ)) → readied_in bytes ≡ found → IfOk found (λ r. HasFacts r.deployment)
      by (Ok r) e = facts r (made_from bytes r e)
      by (Err line) e = tt

-- ---- texts

-- the last of the built-in names stands in each table that extends theirs
built_in-stays : (names : List (List ℕ)) → Extends built_in_names names
    → has_text names (number_of built_in.AmbiguousResolutionException) ≡ true
unfolding built_in_names
built_in-stays names extends = text-stays built_in_names names 18 extends (omega arith)

-- each number of a table has a text
known_text : (names : List (List ℕ)) (n : ℕ) → n < length names → has_text names n ≡ true
known_text [] n lt = absurd (omega (arith, lt))
known_text (x ∷ names) zero lt = refl
known_text (x ∷ names) (suc n) lt = known_text names n (omega (arith, lt))

-- the built-in exceptions and the declared ones have texts
pub have_texts : (d : Deployment) → HasFacts d → has_texts d ≡ true
have_texts d facts =
    and_from _ _ (built_in-stays d.names facts.built_in)
    (all_pass (λ (x : Exception). x.name < length d.names) (λ (x : Exception). has_text d.names x.name) d.exceptions (λ x h. known_text d.names x.name h)
    (recursion_from_All (λ (x : Exception). x.name < length d.names) d.exceptions facts.known.exceptions))

pub reads_texts : (bytes : List ℕ) → IfOk (readied_in bytes) (λ r. has_texts r.deployment ≡ true)
reads_texts bytes = by (readied_in bytes) (reads_facts bytes)
  where
    by : (found : Result Readied (List ℕ)) → IfOk found (λ r. HasFacts r.deployment) → IfOk found (λ r. has_texts r.deployment ≡ true)
    by (Ok r) h = have_texts r.deployment h
    by (Err line) h = tt
