use Rattle.std.proofs.Common.{◌≡◌, ◌∙◌, ◌||◌, Bool, List, ap, sym}
use Rattle.std.specs.List.{list_any}
use Rattle.cdi_beans.specs.declared.bean.Bean.{Bean}
use Rattle.cdi_beans.specs.declared.bean.BeanMember.{BeanMember}
use Rattle.cdi_quals.specs.declared.qualifier.Qualifier.{Qualifier}
use Rattle.cdi_plans.specs.BeanBindings.{stands_in_lifecycle}
use Rattle.cdi_plans.specs.Chains.{ChainTables, class_level, intercepts, intercepts_lifecycle, intercepts_member, is_bound_with, member_level}
use Rattle.cdi_plans.proofs.Some.{any_of_two, either_first}
use Rattle.cdi_plans.proofs.chains.Chains.is_intercepted.Goals as goal

module _ (t : ChainTables) (b : Bean) where
  abbrev some_member : List Qualifier → List BeanMember → Bool
  some_member of_class members = list_any (λ m. list_any (is_bound_with (member_level t m) of_class) t.interceptors) members

  abbrev some_lifecycle : Bool
  some_lifecycle = list_any (intercepts_lifecycle t b.class) t.interceptors

  -- an interceptor stands round a member or in the lifecycle
  in_either : list_any (intercepts t b) t.interceptors ≡ (some_member (class_level t b.class) b.members || some_lifecycle)
  in_either =
      any_of_two (λ j. list_any (intercepts_member t b.class j) b.members) (intercepts_lifecycle t b.class) t.interceptors
      ∙ ap (λ x. x || some_lifecycle) (either_first (intercepts_member t b.class) t.interceptors b.members)

  told : (x : Bool) (of_class : List Qualifier) (members : List BeanMember) → x ≡ some_member of_class members → of_class ≡ class_level t b.class → members ≡ b.members
      → list_any (intercepts t b) t.interceptors ≡ (x || some_lifecycle)
  told x of_class members is class all =
      in_either ∙ ap (λ y. y || some_lifecycle) (sym (is ∙ ap (some_member of_class) all ∙ ap (λ q. some_member q b.members) class))

pub returns-then-is_some_member_intercepted : goal.returns-then-is_some_member_intercepted
returns-then-is_some_member_intercepted c =
    let t = c.args.self.now in
    let b = c.args.bean.now in
    let told_by : list_any (intercepts t b) t.interceptors ≡ (c.is_some_member_intercepted.result || some_lifecycle t b) =
    told t b c.is_some_member_intercepted.result c.class_level-of_class.result.now c.as_slice.result.now c.is_some_member_intercepted.ensures c.class_level-of_class.ensures c.as_slice.ensures in
    c.if-is_some_member_intercepted.true ∙ sym (told_by ∙ ap (λ (x : Bool). x || some_lifecycle t b) c.if-is_some_member_intercepted.true)

pub returns-else-is_some_member_intercepted : goal.returns-else-is_some_member_intercepted
returns-else-is_some_member_intercepted c =
    let t = c.args.self.now in
    let b = c.args.bean.now in
    let told_by : list_any (intercepts t b) t.interceptors ≡ (c.is_some_member_intercepted.result || some_lifecycle t b) =
    told t b c.is_some_member_intercepted.result c.class_level-of_class.result.now c.as_slice.result.now c.is_some_member_intercepted.ensures c.class_level-of_class.ensures c.as_slice.ensures in
    c.is_lifecycle_intercepted.ensures
    ∙ ap (λ (of_class : List Qualifier). list_any (stands_in_lifecycle of_class) t.interceptors) c.class_level-of_class.ensures
    ∙ sym (told_by ∙ ap (λ (x : Bool). x || some_lifecycle t b) c.if-is_some_member_intercepted.false)
