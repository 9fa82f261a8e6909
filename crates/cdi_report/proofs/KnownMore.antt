-- What knows its names in a table of names knows them in each longer one.
use Rattle.std.proofs.Common.{ℕ, ◌+◌, ◌<◌, ◌≤◌, List, length, ap, arith, length-append, ◌≡◌, ◌∙◌}
use Rattle.std.proofs.lemmas.List.Elements.{All-weaker}
use Rattle.std.proofs.lemmas.Option.{IfSome_then}
use Rattle.std.specs.List.{All}
use Rattle.cdi_base.specs.Name.{Extends}
use Rattle.cdi_base.specs.declared.uses.MemberValue.{MemberValue}
use Rattle.cdi_base.specs.declared.uses.Use.{Use}
use Rattle.cdi_deployment.specs.KnownNames.{AreKnown, IsKnown, KnowsAnnotationType, KnowsBean, KnowsClass, KnowsConstructor, KnowsInjectedField, KnowsInterceptor, KnowsInterface, KnowsMember, KnowsNames, KnowsPoint, KnowsUse, KnowsUses}
use Rattle.cdi_deployment.specs.declared.deployment.AnnotationType.{AnnotationType}
use Rattle.cdi_deployment.specs.declared.deployment.Bean.{Bean}
use Rattle.cdi_deployment.specs.declared.deployment.Class.{Class}
use Rattle.cdi_deployment.specs.declared.deployment.Constructor.{Constructor}
use Rattle.cdi_deployment.specs.declared.deployment.Deployment.{Deployment}
use Rattle.cdi_deployment.specs.declared.deployment.Exception.{Exception}
use Rattle.cdi_deployment.specs.declared.deployment.Field.{Field}
use Rattle.cdi_deployment.specs.declared.deployment.InjectedField.{InjectedField}
use Rattle.cdi_deployment.specs.declared.deployment.Interceptor.{Interceptor}
use Rattle.cdi_deployment.specs.declared.deployment.Interface.{Interface}
use Rattle.cdi_deployment.specs.declared.deployment.Member.{Member}
use Rattle.cdi_deployment.specs.declared.deployment.Member.TheVariants as members
use Rattle.cdi_deployment.specs.declared.deployment.Point.{Point}
use Rattle.cdi_deployment.specs.declared.deployment.Script.{Script}

-- from a table that holds few names to one that holds at least as many
module _ (few many : ℕ) (longer : few ≤ many) where
  known-more : (name : ℕ) → IsKnown few name → IsKnown many name
  known-more name below = omega (arith, longer, below)

  are-more : (names : List ℕ) → AreKnown few names → AreKnown many names
  are-more names know = All-weaker (IsKnown few) (IsKnown many) known-more names know

  use-more : (u : Use) → KnowsUse few u → KnowsUse many u
  use-more u know = (
    known-more u.name know.0,
    All-weaker (λ (m : MemberValue). IsKnown few m.name) (λ (m : MemberValue). IsKnown many m.name) (λ m. known-more m.name) u.members know.1,
  )

  uses-more : (uses : List Use) → KnowsUses few uses → KnowsUses many uses
  uses-more uses know = All-weaker (KnowsUse few) (KnowsUse many) use-more uses know

  field-more : (f : Field) → IsKnown few f.name → IsKnown many f.name
  field-more f know = known-more f.name know

  fields-more : (fields : List Field) → All (λ f. IsKnown few f.name) fields → All (λ f. IsKnown many f.name) fields
  fields-more fields know = All-weaker (λ (f : Field). IsKnown few f.name) (λ (f : Field). IsKnown many f.name) field-more fields know

  injected_field-more : (f : InjectedField) → KnowsInjectedField few f → KnowsInjectedField many f
  injected_field-more f know = (known-more f.name know.0, known-more f.ty know.1, uses-more f.quals know.2)

  injected_fields-more : (fields : List InjectedField) → All (KnowsInjectedField few) fields → All (KnowsInjectedField many) fields
  injected_fields-more fields know = All-weaker (KnowsInjectedField few) (KnowsInjectedField many) injected_field-more fields know

  point-more : (p : Point) → KnowsPoint few p → KnowsPoint many p
  point-more p know = (known-more p.ty know.0, uses-more p.quals know.1)

  points-more : (points : List Point) → All (KnowsPoint few) points → All (KnowsPoint many) points
  points-more points know = All-weaker (KnowsPoint few) (KnowsPoint many) point-more points know

  interface-more : (i : Interface) → KnowsInterface few i → KnowsInterface many i
  interface-more i know = (known-more i.name know.0, are-more i.extends know.1)

  annotation_type-more : (a : AnnotationType) → KnowsAnnotationType few a → KnowsAnnotationType many a
  annotation_type-more a know = (known-more a.name know.0, are-more a.members know.1, are-more a.nonbinding know.2)

  annotation_types-more : (types : List AnnotationType) → All (KnowsAnnotationType few) types → All (KnowsAnnotationType many) types
  annotation_types-more types know = All-weaker (KnowsAnnotationType few) (KnowsAnnotationType many) annotation_type-more types know

  bean-more : (b : Bean) → KnowsBean few b → KnowsBean many b
  bean-more b know = (uses-more b.quals know.0, IfSome_then b.typed know.1 are-more)

  constructor-more : (c : Constructor) → KnowsConstructor few c → KnowsConstructor many c
  constructor-more c know = (points-more c.params know.0, IfSome_then c.body know.1 known-more)

  interceptor-more : (i : Interceptor) → KnowsInterceptor few i → KnowsInterceptor many i
  interceptor-more i know = record {
    name = known-more i.name know.name;
    bindings = uses-more i.bindings know.bindings;
    fields = fields-more i.fields know.fields;
    inject = injected_fields-more i.inject know.inject;
    invoke = IfSome_then i.invoke know.invoke known-more;
    construct = IfSome_then i.construct know.construct known-more;
    post = IfSome_then i.post know.post known-more;
    pre = IfSome_then i.pre know.pre known-more;
  }

  member-more : (m : Member) → KnowsMember few m → KnowsMember many m
  member-more (members.Method m) know = (known-more m.name know.0, known-more m.body know.1, uses-more m.bindings know.2)
  member-more (members.Initializer m) know = (known-more m.name know.0, known-more m.body know.1, points-more m.params know.2)
  member-more (members.PostConstruct m) know = (known-more m.name know.0, known-more m.body know.1)
  member-more (members.PreDestroy m) know = (known-more m.name know.0, known-more m.body know.1)
  member-more (members.Producer m) (name, body, type, quals, typed, params, bindings) = (
    known-more m.name name,
    known-more m.body body,
    known-more m.ty type,
    uses-more m.quals quals,
    IfSome_then m.typed typed are-more,
    points-more m.params params,
    uses-more m.bindings bindings,
  )
  member-more (members.ProducerField m) (name, field, type, quals, typed) = (
    known-more m.name name,
    known-more m.field field,
    known-more m.ty type,
    uses-more m.quals quals,
    IfSome_then m.typed typed are-more,
  )
  member-more (members.Disposer m) (name, body, type, quals, params, bindings) = (
    known-more m.name name,
    known-more m.body body,
    known-more m.ty type,
    uses-more m.quals quals,
    points-more m.params params,
    uses-more m.bindings bindings,
  )
  member-more (members.Observer m) (name, body, type, quals, params, bindings) = (
    known-more m.name name,
    known-more m.body body,
    known-more m.ty type,
    uses-more m.quals quals,
    points-more m.params params,
    uses-more m.bindings bindings,
  )

  class-more : (c : Class) → KnowsClass few c → KnowsClass many c
  class-more c know = record {
    name = known-more c.name know.name;
    extends = IfSome_then c.extends know.extends known-more;
    implements = are-more c.implements know.implements;
    bindings = uses-more c.bindings know.bindings;
    bean = IfSome_then c.bean know.bean bean-more;
    fields = fields-more c.fields know.fields;
    inject = injected_fields-more c.inject know.inject;
    constructor = IfSome_then c.constructor know.constructor constructor-more;
    members = All-weaker (KnowsMember few) (KnowsMember many) member-more c.members know.members;
  }

  exceptions-more : (exceptions : List Exception) → All (λ e. e.name < few) exceptions → All (λ e. e.name < many) exceptions
  exceptions-more exceptions know =
      All-weaker (λ (e : Exception). e.name < few) (λ (e : Exception). e.name < many) (λ e. known-more e.name) exceptions know

  scripts-more : (scripts : List Script) → All (λ s. s.name < few) scripts → All (λ s. s.name < many) scripts
  scripts-more scripts know =
      All-weaker (λ (s : Script). s.name < few) (λ (s : Script). s.name < many) (λ s. known-more s.name) scripts know

longer-of : (names table : List (List ℕ)) → Extends names table → length names ≤ length table
longer-of names table extends =
    let is : length table ≡ length names + length extends.more =
    ap (λ (t : List (List ℕ)). length t) extends.is ∙ length-append names extends.more in
    omega (arith, is)

-- a deployment whose table was extended
pub names-more : (d : Deployment) (names : List (List ℕ)) → Extends d.names names → KnowsNames d
    → KnowsNames (record d { names = names })
names-more d names extends know =
    let few = length d.names in
    let many = length names in
    let longer = longer-of d.names names extends in
    record {
      interfaces = All-weaker (KnowsInterface few) (KnowsInterface many) (interface-more few many longer) d.interfaces know.interfaces;
      qualifiers = annotation_types-more few many longer d.qualifiers know.qualifiers;
      bindings = annotation_types-more few many longer d.bindings know.bindings;
      exceptions = exceptions-more few many longer d.exceptions know.exceptions;
      classes = All-weaker (KnowsClass few) (KnowsClass many) (class-more few many longer) d.classes know.classes;
      interceptors = All-weaker (KnowsInterceptor few) (KnowsInterceptor many) (interceptor-more few many longer) d.interceptors know.interceptors;
      selected = are-more few many longer d.selected know.selected;
      order = are-more few many longer d.order know.order;
      scripts = scripts-more few many longer d.scripts know.scripts;
    }
