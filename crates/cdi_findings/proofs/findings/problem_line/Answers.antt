use Rattle.std.proofs.Common.{rules, ap, ◌≡◌, ◌∙◌, refl, map, string_bytes}
use Rattle.std.proofs.lemmas.Result.{IfOk-weaker}
use Rattle.cdi_problem_hints.specs.Left.{problem_candidates}
use Rattle.cdi_problem_hints.specs.Subjects.{subject_of}
use Rattle.cdi_problems.specs.Places.{place_text}
use Rattle.cdi_findings.specs.declared.finding.FindingKind.TheVariants as finding_kinds
use Rattle.cdi_findings.proofs.findings.problem_line.Goals as goal

pub returns : goal.returns
returns c =
    let s = subject_of c.args.subject.now in
    let place_is : c.deref.result.now ≡ string_bytes c.in_ok-place.place = search rules in
    let message_is : c.deref-2.result.now ≡ string_bytes c.in_ok-message.message = search rules in
    let beans_are : c.as_slice.result.now ≡ c.in_ok-beans.beans = search rules in
    let texts_are : c.as_slice-2.result.now ≡ c.in_ok-candidates.candidates.items = search rules in
    let candidates_are : map string_bytes c.as_slice-2.result.now ≡ map (place_text s.deployment.names) (problem_candidates s c.args.problem.now) =
    ap (map string_bytes) texts_are ∙ c.in_ok-candidates.ensures ∙ ap (map (place_text s.deployment.names)) (beans_are ∙ c.in_ok-beans.ensures) in
    IfOk-weaker c.finding_line.result _ _ (λ line is. record {
      told = record { kind = finding_kinds.Problem; name = c.text.result.now; place = c.deref.result.now; position = c.args.position; message = c.deref-2.result.now; candidates = map string_bytes c.as_slice-2.result.now };
      kind = refl;
      name = c.text.ensures;
      place = place_is ∙ c.in_ok-place.ensures;
      position = refl;
      message = message_is ∙ c.in_ok-message.ensures;
      candidates = candidates_are;
      is = is;
    }) c.finding_line.ensures
