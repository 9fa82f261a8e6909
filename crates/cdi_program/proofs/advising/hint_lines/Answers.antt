use Rattle.std.proofs.Common.{◌≡◌, ◌∙◌, ◌++◌, ◌∷◌, ℕ, List, [], ◌+◌, take, string_bytes, rules, ap, sym, subst}
use Rattle.std.proofs.lemmas.List.{take_more}
use Rattle.cdi_problems.specs.declared.problem.Problem.{Problem}
use Rattle.cdi_problem_hints.specs.Hints.{problem_hint}
use Rattle.cdi_problem_hints.specs.Subjects.{subject_of}
use Rattle.cdi_program.specs.Advice as spec
use Rattle.cdi_program.proofs.advising.hint_lines.Goals as goal

pub loop-problem-init : goal.loop-problem-init
loop-problem-init c =
    let P : List ℕ → Type 0 = λ lines. spec.AreHintLines c.args.file.now c.args.bytes.now (subject_of c.args.subject.now) [] lines in
    subst P (sym c.new-lines.ensures.bytes) spec.AreHintLines.none

pub loop-problem-preserved : goal.loop-problem-preserved
loop-problem-preserved c =
    let i = c.loop-problem in
    let s = subject_of c.args.subject.now in
    let p = c.problem-item.result in
    let before = take i.problem-index c.args.problems.now in
    let Lines : List Problem → List ℕ → Type 0 = λ problems lines. spec.AreHintLines c.args.file.now c.args.bytes.now s problems lines in
    let hint_is : string_bytes c.in_ok-format.field-0 ≡ spec.position_front c.in_ok-position.position ++ problem_hint s p = search rules in
    let told : string_bytes c.add_line.new.lines ≡ string_bytes i.lines ++ spec.hint_line c.args.file.now s p c.in_ok-position.position = search rules in
    let next : take (i.problem-index + 1) c.args.problems.now ≡ before ++ p ∷ [] =
    take_more c.args.problems.now i.problem-index p c.loop-problem-test.true ∙ ap (λ (x : Problem). before ++ x ∷ []) (sym c.problem-item.is) in
    let more : Lines (before ++ p ∷ []) (string_bytes i.lines ++ spec.hint_line c.args.file.now s p c.in_ok-position.position) =
    spec.AreHintLines.more before (string_bytes i.lines) p c.in_ok-position.position c.in_ok-position.ensures i.invariant in
    subst (λ (problems : List Problem). Lines problems (string_bytes c.add_line.new.lines)) (sym next) (subst (Lines (before ++ p ∷ [])) (sym told) more)
