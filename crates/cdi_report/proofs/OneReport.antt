-- Two reports on the same bytes that no fault ended are one.
use Rattle.std.proofs.Common.{◌≡◌, ◌∙◌, ℕ, Bool, true, false, List, [], ◌∷◌, Option, Some, None, refl, sym, ap, subst}
use Rattle.std.specs.Prelude.{Result, Ok, Err}
use Rattle.std.specs.Io.KnownBytes.{Appends}
use Rattle.cdi_bodies.specs.declared.shape.Shape.{Shape}
use Rattle.cdi_check.specs.Problems.{AreProblemsOf}
use Rattle.cdi_deployment.specs.declared.deployment.Deployment.{Deployment}
use Rattle.cdi_lines.specs.Ends.{WritesAll}
use Rattle.cdi_lines.specs.declared.sink.WriteFailed.{WriteFailed}
use Rattle.cdi_prepare.specs.Ready.{Readied}
use Rattle.cdi_prepare.specs.Scripts.{registered}
use Rattle.cdi_prepare.specs.declared.scripts.NamedScript.{NamedScript}
use Rattle.cdi_problems.specs.declared.problem.Problem.{Problem}
use Rattle.cdi_report.specs.OneReport.{IsSettled, OneReport, SameReport}
use Rattle.cdi_report.specs.Reports.{AreFindings, AreProblemsWith, ReportsOn, TellsProblems, Told, Writes, verdict_of}
use Rattle.cdi_report.specs.declared.verdict.Verdict.{Verdict}
use Rattle.cdi_report.specs.declared.verdict.Verdict.TheVariants as verdicts
use Rattle.cdi_accepted.proofs.Verdicts.{one_verdict}

-- ---- what is written

not_a_fault : {verdict : Verdict} {fault : _} → IsSettled verdict → verdict ≡ verdicts.Fault fault → ⊥
not_a_fault settled e = subst IsSettled e settled

one_addition : (held lines : List ℕ) (after other : Option (List ℕ)) → Appends (Some held) after lines → Appends (Some held) other lines → after ≡ other
one_addition held lines None other a b = absurd a
one_addition held lines (Some xs) None a b = absurd b
one_addition held lines (Some xs) (Some ys) a b = ap Some (a ∙ sym b)

same_verdict : (u v : Unit {0}) (is_accepted : Bool) → verdict_of {T = Unit {0}} {E = WriteFailed} (Ok u) is_accepted ≡ verdict_of {T = Unit {0}} {E = WriteFailed} (Ok v) is_accepted
same_verdict u v true = refl
same_verdict u v false = refl

-- lines and a verdict that were not disturbed
one_writing : (lines : List ℕ) (is_accepted : Bool) (held : List ℕ) (after other_after : Option (List ℕ)) (verdict other : Verdict) → IsSettled verdict → IsSettled other
    → Writes lines is_accepted (Some held) after verdict → Writes lines is_accepted (Some held) other_after other → SameReport after other_after verdict other
one_writing lines is_accepted held after other_after verdict other settled also a b = by a.result b.result a.written b.written a.is_verdict b.is_verdict
  where
    by : (r s : Result (Unit {0}) WriteFailed) → WritesAll (Some held) after r lines → WritesAll (Some held) other_after s lines
        → verdict ≡ verdict_of r is_accepted → other ≡ verdict_of s is_accepted → SameReport after other_after verdict other
    by (Err e) s w x p q = absurd (not_a_fault settled p)
    by (Ok u) (Err e) w x p q = absurd (not_a_fault also q)
    by (Ok u) (Ok v) w x p q = record { written = one_addition held lines after other_after w x; verdict_is = p ∙ same_verdict u v is_accepted ∙ sym q }

-- ---- what is told

one_finding : (names : List (List ℕ)) (problems : List Problem) (lines others : List ℕ) (is_accepted other : Bool) → AreFindings names problems lines is_accepted → AreFindings names problems others other → (lines ≡ others) × (is_accepted ≡ other)
one_finding names [] lines others is_accepted other a b = (a.0 ∙ sym b.0, a.1 ∙ sym b.1)
one_finding names (p ∷ ps) lines others is_accepted other a b = (a.0 ∙ sym b.0, a.1 ∙ sym b.1)

one_list_with : (scripts : List NamedScript) (d : Deployment) (these those : List Problem) → AreProblemsWith scripts d these → AreProblemsWith scripts d those → these ≡ those
one_list_with scripts d these those a b =
    let same : b.shape_of ≡ a.shape_of = λ i name. (b.shapes name ∙ sym (a.shapes name)) i in
    one_verdict d a.shape_of these those a.are (subst (λ (f : ℕ → Option Shape). AreProblemsOf d f those) same b.are)

one_telling : (r : Readied) (held : List ℕ) (after other_after : Option (List ℕ)) (verdict other : Verdict) → IsSettled verdict → IsSettled other
    → TellsProblems r (Some held) after verdict → TellsProblems r (Some held) other_after other → SameReport after other_after verdict other
one_telling r held after other_after verdict other settled also a b =
    let problems = one_list_with (registered r.scripts) r.deployment b.judges.problems a.judges.problems b.judges.are a.judges.are in
    let found : AreFindings r.deployment.names a.judges.problems b.lines b.is_accepted =
    subst (λ ps. AreFindings r.deployment.names ps b.lines b.is_accepted) problems b.judges.are_findings in
    let same = one_finding r.deployment.names a.judges.problems b.lines a.lines b.is_accepted a.is_accepted found a.judges.are_findings in
    let first : Writes a.lines b.is_accepted (Some held) other_after other = subst (λ l. Writes l b.is_accepted (Some held) other_after other) same.0 b.writes in
    one_writing a.lines a.is_accepted held after other_after verdict other settled also a.writes
    (subst (λ x. Writes a.lines x (Some held) other_after other) same.1 first)

one_told : (read : Result Readied (List ℕ)) (held : List ℕ) (after other_after : Option (List ℕ)) (verdict other : Verdict) → IsSettled verdict → IsSettled other
    → Told read (Some held) after verdict → Told read (Some held) other_after other → SameReport after other_after verdict other
one_told (Err fault) held after other_after verdict other settled also a b = one_writing fault false held after other_after verdict other settled also a b
one_told (Ok r) held after other_after verdict other settled also a b = one_telling r held after other_after verdict other settled also a b

pub one_report : OneReport
one_report bytes held after other_after verdict other settled also (ReportsOn.starves h e) b = absurd (not_a_fault settled e)
one_report bytes held after other_after verdict other settled also (ReportsOn.tells a) (ReportsOn.starves h e) = absurd (not_a_fault also e)
one_report bytes held after other_after verdict other settled also (ReportsOn.tells a) (ReportsOn.tells b) =
    one_told _ held after other_after verdict other settled also a b
