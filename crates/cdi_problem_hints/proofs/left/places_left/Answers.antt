use Rattle.std.proofs.Common.{◌≡◌, ◌∙◌, IfOk, List, Option, Some, ap, subst, sym}
use Rattle.std.specs.List.{flat_map}
use Rattle.std.specs.Option.{option_copied}
use Rattle.cdi_base.specs.declared.place.Place.{Place}
use Rattle.cdi_problem_hints.proofs.Where.{told_where}
use Rattle.cdi_problem_hints.specs.Asked.{is_at}
use Rattle.cdi_problem_hints.specs.Left.{left_in, places_left}
use Rattle.cdi_problems.specs.Elements.{elements_of}
use Rattle.cdi_resolve.specs.declared.bean_tables.BeanTables.{BeanTables}
use Rattle.cdi_problem_hints.proofs.left.places_left.Goals as goal

pub returns-in-Some : goal.returns-in-Some
returns-in-Some c =
    let s = c.args.subject.now in
    let d = s.deployment.now in
    let place = c.args.place.now in
    let t = c.in-Some.tables.now in
    let known : option_copied s.tables ≡ Some t = ap option_copied c.in-Some.is in
    let told = ap (flat_map (left_in t)) c.elements_at-elements.ensures ∙ told_where (is_at place) (left_in t) (elements_of d) in
    subst (λ (o : Option BeanTables). IfOk c.left_in.result (λ places. places ≡ places_left d o place)) (sym known)
    (subst (λ (l : List Place). IfOk c.left_in.result (λ places. places ≡ l)) told c.left_in.ensures)
