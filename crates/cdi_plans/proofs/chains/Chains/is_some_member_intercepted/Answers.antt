use Rattle.std.proofs.Common.{◌≡◌, ◌∙◌, ◌||◌, ◌∷◌, ◌+◌, Bool, false, List, drop, ap, sym}
use Rattle.std.specs.List.{list_any}
use Rattle.cdi_beans.specs.declared.bean.BeanMember.{BeanMember}
use Rattle.cdi_quals.proofs.Pairs.{next}
use Rattle.cdi_plans.specs.Chains.{is_bound_with, member_level}
use Rattle.cdi_plans.proofs.chains.Chains.is_some_member_intercepted.Goals as goal

pub loop-member-preserved : goal.loop-member-preserved
loop-member-preserved c =
    let t = c.args.self.now in
    let members : List BeanMember = c.args.members.now in
    let i = c.loop-member.member-index in
    let m : BeanMember = c.member-item.result in
    let passes : BeanMember → Bool = λ m. list_any (is_bound_with (member_level t m) c.args.of_class.now) t.interceptors in
    let left : List BeanMember = drop (i + 1) members in
    let first : drop i members ≡ m ∷ left = next members i m c.loop-member-test.true c.member-item.is in
    let here : passes m ≡ false = sym c.is_member_intercepted.ensures ∙ c.if-is_member_intercepted.false in
    ap (λ (b : Bool). b || list_any passes left) (sym here) ∙ ap (list_any passes) (sym first) ∙ c.loop-member.invariant
