use Rattle.std.proofs.Common.{◌≡◌, ◌∙◌, ◌++◌, ◌∷◌, ℕ, List, [], ◌+◌, take, string_bytes, rules, ap, sym, subst}
use Rattle.std.proofs.lemmas.List.{take_more}
use Rattle.cdi_problems.specs.declared.problem.Problem.{Problem}
use Rattle.cdi_problem_hints.specs.Subjects.{subject_of}
use Rattle.cdi_findings.specs.Findings as spec
use Rattle.cdi_findings.proofs.findings.problem_lines.Goals as goal

pub loop-index-init : goal.loop-index-init
loop-index-init c =
    let P : List ℕ → Type 0 = λ lines. spec.AreProblemLines c.args.bytes.now (subject_of c.args.subject.now) [] lines in
    subst P (sym c.new-lines.ensures.bytes) spec.AreProblemLines.none

pub loop-index-preserved : goal.loop-index-preserved
loop-index-preserved c =
    let i = c.loop-index in
    let s = subject_of c.args.subject.now in
    let p = c.index-problems-index.result in
    let before = take i.index c.args.problems.now in
    let Lines : List Problem → List ℕ → Type 0 = λ problems lines. spec.AreProblemLines c.args.bytes.now s problems lines in
    let told : string_bytes c.push_str.new.self ≡ string_bytes i.lines ++ string_bytes c.in_ok-line.line = search rules in
    let next : take (i.index + 1) c.args.problems.now ≡ before ++ p ∷ [] =
    take_more c.args.problems.now i.index p c.loop-index-test.true ∙ ap (λ (x : Problem). before ++ x ∷ []) (sym c.index-problems-index.is) in
    let more : Lines (before ++ p ∷ []) (string_bytes i.lines ++ string_bytes c.in_ok-line.line) =
    spec.AreProblemLines.more before (string_bytes i.lines) p (string_bytes c.in_ok-line.line) i.invariant (record { position = c.in_ok-position.position; is_in = c.in_ok-position.ensures; is_line = c.in_ok-line.ensures }) in
    subst (λ (problems : List Problem). Lines problems (string_bytes c.push_str.new.self)) (sym next) (subst (Lines (before ++ p ∷ [])) (sym told) more)
