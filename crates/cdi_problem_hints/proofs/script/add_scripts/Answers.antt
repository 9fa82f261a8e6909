use Rattle.std.proofs.Common.{◌≡◌, ◌∙◌, ◌++◌, ℕ, List, OnOk, ap, subst, string_bytes}
use Rattle.std.specs.List.{flat_map}
use Rattle.cdi_body_check.specs.Sites.{Site, body_of, sites_of}
use Rattle.cdi_problem_hints.proofs.Where.{told_where}
use Rattle.cdi_problem_hints.specs.Scripts.{is_at}
use Rattle.cdi_problem_hints.specs.Scripts as spec
use Rattle.cdi_problem_hints.proofs.script.add_scripts.Goals as goal

pub returns : goal.returns
returns c =
    let s = c.args.subject.now in
    let told : Site → List ℕ = λ site. spec.script_text s.deployment.now s.scripts.now (body_of site) in
    subst (λ t. OnOk c.add_each.result (string_bytes c.add_each.new.hint ≡ string_bytes c.args.hint.now ++ t))
    (ap (flat_map told) c.sites_at-sites.ensures ∙ told_where (is_at c.args.place.now) told (sites_of s.deployment.now)) c.add_each.ensures
