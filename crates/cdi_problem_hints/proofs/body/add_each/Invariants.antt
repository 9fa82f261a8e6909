use Rattle.std.proofs.Common.{◌≡◌, ◌++◌, string_bytes, take}
use Rattle.std.specs.List.{flat_map}
use Rattle.cdi_body_check.specs.Sites.{body_of, shown}
use Rattle.cdi_problem_hints.specs.Bodies as spec
use Rattle.cdi_problem_hints.proofs.body.add_each.Given as goal

abbrev pub invariant-loop-site : goal.invariant-loop-site
invariant-loop-site l =
    string_bytes l.hint ≡ string_bytes l.initial.hint
    ++ flat_map (λ s. spec.body_text l.subject.deployment.now l.subject.scripts.now (body_of s)) (shown (take l.site-index l.sites))
