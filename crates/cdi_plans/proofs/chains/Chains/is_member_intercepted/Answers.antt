use Rattle.std.proofs.Common.{◌≡◌, ◌∙◌, Bor, List, Option, None, refl, ap, sym}
use Rattle.std.specs.Prelude.{option_map}
use Rattle.std.specs.List.{list_any}
use Rattle.cdi_quals.specs.declared.qualifier.Qualifier.{Qualifier}
use Rattle.cdi_plans.specs.Chains.{is_bound_with, member_level}
use Rattle.cdi_plans.proofs.Some.{none_passes}
use Rattle.cdi_plans.proofs.chains.Chains.is_member_intercepted.Goals as goal

pub returns-in-None : goal.returns-in-None
returns-in-None c =
    let of_class = c.args.of_class.now in
    let js = c.args.self.now.interceptors in
    let had : member_level c.args.self.now c.args.member ≡ None = sym c.member_level.ensures ∙ ap (option_map (λ (q : Bor (List Qualifier)). q.now)) c.in-None.is in
    sym (none_passes (is_bound_with None of_class) (λ j. refl) js)
    ∙ ap (λ (own : Option (List Qualifier)). list_any (is_bound_with own of_class) js) (sym had)
