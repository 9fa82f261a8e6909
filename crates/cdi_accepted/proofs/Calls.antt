-- What a reference resolves to answers the calls that the shape of a body lists.
use Rattle.std.proofs.Common.{ℕ, ◌≡◌, ◌∙◌, true, false, nat_eq, List, Some, refl, sym, ap, subst}
use Rattle.std.proofs.lemmas.Bool.{and_parts, not-false}
use Rattle.std.specs.List.{list_any}
use Rattle.cdi_beans.specs.Beans.{bean_member}
use Rattle.cdi_beans.specs.declared.bean.Bean.{Bean}
use Rattle.cdi_beans.specs.declared.bean.BeanMember.{BeanMember}
use Rattle.cdi_bodies.specs.declared.entry.Entry.{Entry}
use Rattle.cdi_bodies.specs.declared.shape.MethodCall.{MethodCall}
use Rattle.cdi_body_check.specs.Shapes.{shape_of}
use Rattle.cdi_check.specs.Accepted.{AreBodiesSound}
use Rattle.cdi_check.specs.Tables.{setting_by}
use Rattle.cdi_deployment.specs.declared.deployment.Class.{Class}
use Rattle.cdi_deployment.specs.declared.deployment.Deployment.{Deployment}
use Rattle.cdi_deployment.specs.declared.deployment.Point.{Point}
use Rattle.cdi_beans.specs.Kinds.{is_managed}
use Rattle.cdi_machine.specs.Tables as machine
use Rattle.cdi_types.specs.Line.{class_named}
use Rattle.cdi_types.specs.Members.{members_of}
use Rattle.cdi_resolve.specs.Filters.{enabled_of}
use Rattle.cdi_run_tables.specs.Machine.{AreIdsOf, asked_by, bean_with, machine_tables}
use Rattle.cdi_run_tables.specs.Planned.{IsTabled}
use Rattle.cdi_run_tables.specs.declared.tables.RunTables.{RunTables}
use Rattle.cdi_shape_check.specs.OwnParts.{declares_method}
use Rattle.cdi_shape_check.specs.References.{answers_call, bean_at, bean_told, declares_called, is_called, refuses_call}
use Rattle.cdi_whole.specs.Fits.{AnswersCalls, HasMethod}
use Rattle.cdi_accepted.proofs.Beans.{stands_listed, target}
use Rattle.cdi_accepted.proofs.Lists.{Among, any_passes, mapped, passing}
use Rattle.cdi_accepted.proofs.Members.{of_line}
use Rattle.cdi_accepted.proofs.Registered.{app_of}
use Rattle.cdi_accepted.proofs.Methods.{front, has_method, known, managed}
use Rattle.cdi_accepted.proofs.FitPlans.{HasPlan, has_plan, kind_of}

-- a member of a bean is the method that is called
called_class : (classes : List Class) (call : MethodCall) (m : BeanMember) (c : Class) → class_named classes m.class ≡ Some c → is_called classes call m ≡ true → declares_method call.method call.count c ≡ true
called_class classes call m c is e =
    let test = (and_parts (nat_eq m.name call.method) (declares_called call (class_named classes m.class)) e).1 in
    ap (declares_called call) (sym is) ∙ test

module _ {X : Type 0} {F : X → Type 0} {g : _} (entries : List (Entry X F g)) (t : RunTables) (tabled : IsTabled t) (ids : AreIdsOf entries t)
    (sound : AreBodiesSound t.deployment (shape_of entries) (setting_by t.deployment t.tables)) where
  abbrev d : Deployment
  d = t.deployment

  -- an enabled bean that has a called method, as the machine has it
  has_called : (b : ℕ) (listed : Bean) (enabled : Among (b, listed) (enabled_of t.tables.resolver)) (plan : HasPlan t b listed) (call : MethodCall)
      → answers_call d.classes call listed ≡ true → HasMethod (managed entries t tabled ids sound b listed enabled plan).methods call.method call.count
  has_called b listed enabled plan call e =
      let member = passing (is_called d.classes call) listed.members (and_parts (is_managed listed.kind) (list_any (is_called d.classes call) listed.members) e).1 in
      let P : List BeanMember → Type 0 = λ ms. Among member.item ms in
      let found = mapped bean_member (members_of plan.line) member.item (subst P plan.members member.stands) in
      let class = found.item.0 in
      let of = of_line plan.line class found.item.1 found.stands in
      let named : class_named d.classes member.item.class ≡ Some class =
      ap (λ (m : BeanMember). class_named d.classes m.class) found.is ∙ (front entries t tabled ids sound b listed enabled plan class of.class).named in
      has_method entries t tabled ids sound b listed enabled plan call.method call.count
      (any_passes (declares_method call.method call.count) plan.line class of.class (called_class d.classes call member.item class named member.passes))

  -- what a point resolves to, where the check didn't refuse the call
  pub answered : (p : Point) (call : MethodCall) (b : ℕ) → refuses_call d.classes call (bean_at (app_of t) p) ≡ false → (machine_tables t).resolve (asked_by p) ≡ machine.Resolution.One b
      → AnswersCalls (machine_tables t) b call.method call.count
  answered p call b there resolves =
      let it = target t (asked_by p) b resolves in
      let told : refuses_call d.classes call (Some it.bean) ≡ false =
      ap (refuses_call d.classes call) (sym it.has) ∙ ap (λ r. refuses_call d.classes call (bean_told (enabled_of t.tables.resolver) r)) (sym it.resolves) ∙ there in
      let yes : answers_call d.classes call it.bean ≡ true = not-false (answers_call d.classes call it.bean) told in
      let kind = kind_of it.bean.kind (and_parts (is_managed it.bean.kind) (list_any (is_called d.classes call) it.bean.members) yes).0 in
      let plan = has_plan t tabled b it.bean (stands_listed t b it.bean it.enabled) kind in
      let own : machine.Managed = managed entries t tabled ids sound b it.bean it.enabled plan in
      record {
        class = own;
        is = record { bean = bean_with plan.planned (machine.Kind.Class own); known = known entries t tabled ids sound b it.bean it.enabled plan; is = refl };
        takes = has_called b it.bean it.enabled plan call yes;
      }
