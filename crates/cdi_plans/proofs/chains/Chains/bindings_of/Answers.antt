use Rattle.std.proofs.Common.{◌≡◌, ◌∙◌, ◌||◌, ◌∷◌, ◌+◌, Bool, false, Bor, List, Option, Some, None, drop, ap, sym}
use Rattle.std.specs.Prelude.{option_map}
use Rattle.std.specs.List.{list_any}
use Rattle.cdi_beans.specs.declared.bean.BeanMember.{BeanMember}
use Rattle.cdi_quals.specs.declared.qualifier.Qualifier.{Qualifier}
use Rattle.cdi_quals.proofs.Pairs.{next}
use Rattle.cdi_plans.specs.BeanBindings.{GatheredBindings, is_bound_to, stands_round_member}
use Rattle.cdi_plans.specs.Chains.{class_level, intercepts_member, is_bound_with, member_level}
use Rattle.cdi_plans.proofs.Some.{one_moved}
use Rattle.cdi_plans.proofs.chains.Chains.bindings_of.Goals as goal
use Rattle.cdi_plans.proofs.chains.Chains.bindings_of.Goals.{in-Some+in_ok-add, in_default}

pub loop-member-preserved : goal.loop-member-preserved
loop-member-preserved c =
    let t = c.args.self.now in
    let bean = c.args.bean.now.class in
    let members : List BeanMember = c.as_slice-member-items.result.now in
    let l = c.loop-member in
    let old : GatheredBindings = l.bindings in
    let m : BeanMember = c.member-item.result in
    let left : List BeanMember = drop (l.member-index + 1) members in
    let first : drop l.member-index members ≡ m ∷ left = next members l.member-index m c.loop-member-test.true c.member-item.is in
    elim c.match-member_level.branch [
      | in-Some+in_ok-add w ↦ (
          let own : List Qualifier = w.in-Some.own.now in
          let had : member_level t m ≡ Some own = sym c.member_level.ensures ∙ ap (option_map (λ (q : Bor (List Qualifier)). q.now)) w.in-Some.is in
          record {
            of_class = ap (λ (g : GatheredBindings). g.of_class) w.bindings-is ∙ w.in_ok-add.ensures.of_class ∙ l.invariant.of_class;
            members = λ j.
                let round : BeanMember → Bool = intercepts_member t bean j in
                let here : round m ≡ is_bound_to old.of_class j own =
                ap (λ (o : Option (List Qualifier)). is_bound_with o (class_level t bean) j) had
                ∙ ap (λ (of_class : List Qualifier). is_bound_to of_class j own) (sym l.invariant.of_class) in
                ap (λ (g : GatheredBindings). list_any round left || stands_round_member g j) w.bindings-is
                ∙ ap (λ (b : Bool). list_any round left || b) (w.in_ok-add.ensures.member j)
                ∙ one_moved (is_bound_to old.of_class j own) (list_any round left) (stands_round_member old j)
                ∙ ap (λ (b : Bool). (b || list_any round left) || stands_round_member old j) (sym here)
                ∙ ap (λ (ms : List BeanMember). list_any round ms || stands_round_member old j) (sym first)
                ∙ l.invariant.members j;
          })
      | in_default w ↦ (
          let had : member_level t m ≡ None = sym c.member_level.ensures ∙ ap (option_map (λ (q : Bor (List Qualifier)). q.now)) w.in_default.is in
          record {
            of_class = ap (λ (g : GatheredBindings). g.of_class) w.bindings-is ∙ l.invariant.of_class;
            members = λ j.
                let round : BeanMember → Bool = intercepts_member t bean j in
                let here : round m ≡ false = ap (λ (o : Option (List Qualifier)). is_bound_with o (class_level t bean) j) had in
                ap (λ (g : GatheredBindings). list_any round left || stands_round_member g j) w.bindings-is
                ∙ ap (λ (b : Bool). (b || list_any round left) || stands_round_member old j) (sym here)
                ∙ ap (λ (ms : List BeanMember). list_any round ms || stands_round_member old j) (sym first)
                ∙ l.invariant.members j;
          })
    ]
