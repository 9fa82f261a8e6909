-- The hints for bytes, by what they were read as.
use Rattle.std.proofs.Common.{◌≡◌, ℕ, List, Some, None, Result, Ok, Err}
use Rattle.cdi_prepare.specs.Ready.{Readied}
use Rattle.cdi_program.specs.Advice.{IsAdviceFor, IsAdviceWith, fault_advice}
use Rattle.cdi_report.specs.Reviews.{Reviews}
use Rattle.cdi_report.specs.declared.reviewing.Review.{Review}

pub advised : (file bytes : List ℕ) (read : Result Readied (List ℕ)) (review : Review) → Reviews read (Some review)
    → (advice : List ℕ) → IsAdviceWith file bytes review.deployment review.scripts review.problems advice
    → IsAdviceFor file bytes read advice
advised file bytes (Err fault) review h advice told = absurd cc
advised file bytes (Ok r) review h advice told = record {
  problems = review.problems;
  are = h.are;
  is_advice = rw (h.deployment, h.scripts) at told;
}

pub unadvised : (file bytes : List ℕ) (read : Result Readied (List ℕ)) → Reviews read None
    → (advice : List ℕ) → advice ≡ fault_advice file read → IsAdviceFor file bytes read advice
unadvised file bytes (Err fault) h advice told = told
unadvised file bytes (Ok r) h advice told = absurd h
