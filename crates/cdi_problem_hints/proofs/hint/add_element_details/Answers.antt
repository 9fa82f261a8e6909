use Rattle.std.proofs.Common.{◌≡◌, ◌∙◌, ◌++◌, ℕ, List, OnOk, ap, subst, string_bytes}
use Rattle.std.specs.List.{flat_map}
use Rattle.std.specs.Option.{option_copied}
use Rattle.cdi_problem_hints.proofs.Where.{told_where}
use Rattle.cdi_problem_hints.specs.Asked.{is_at}
use Rattle.cdi_problem_hints.specs.Hints as spec
use Rattle.cdi_problems.specs.Elements.{Element, elements_of}
use Rattle.cdi_problem_hints.proofs.hint.add_element_details.Goals as goal

pub returns : goal.returns
returns c =
    let s = c.args.subject.now in
    let p = c.args.problem.now in
    let told : Element → List ℕ = spec.details s.deployment.now (option_copied s.tables) p.kind in
    subst (λ t. OnOk c.add_each.result (string_bytes c.add_each.new.hint ≡ string_bytes c.args.hint.now ++ t))
    (ap (flat_map told) c.elements_at-elements.ensures ∙ told_where (is_at p.place) told (elements_of s.deployment.now)) c.add_each.ensures
