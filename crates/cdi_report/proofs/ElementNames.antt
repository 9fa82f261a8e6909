-- The place of each element of a deployment with these facts is told by names.
use Rattle.std.proofs.Common.{ℕ, length, option_to_list}
use Rattle.std.specs.List.{AllByRecursion}
use Rattle.cdi_deployment.specs.KnownNames.{IsKnown, KnowsAnnotationType, KnowsClass, KnowsInjectedField, KnowsInterceptor, KnowsInterface, KnowsMember}
use Rattle.cdi_deployment.specs.declared.deployment.Class.{Class}
use Rattle.cdi_deployment.specs.declared.deployment.Constructor.{Constructor}
use Rattle.cdi_deployment.specs.declared.deployment.Deployment.{Deployment}
use Rattle.cdi_deployment.specs.declared.deployment.Exception.{Exception}
use Rattle.cdi_deployment.specs.declared.deployment.Field.{Field}
use Rattle.cdi_deployment.specs.declared.deployment.Interceptor.{Interceptor}
use Rattle.cdi_deployment.specs.declared.deployment.Script.{Script}
use Rattle.cdi_problems.specs.Elements.{Element, class_elements, elements_of, interceptor_elements, place_of}
use Rattle.cdi_deployment.specs.Member.{member_name}
use Rattle.cdi_report.specs.PlaceNames.{HasName, HasNames}
use Rattle.cdi_report.proofs.Having.{◌and◌, made, numbered}
use Rattle.cdi_report.proofs.KnownNames.{known-named, member-known}
use Rattle.cdi_report.specs.Facts.{HasFacts}

module _ (d : Deployment) (facts : HasFacts d) where
  abbrev count : ℕ
  count = length d.names

  abbrev Tells : Element → Type 0
  Tells e = HasNames d.names (place_of e)

  named : (name : ℕ) → IsKnown count name → HasName d.names name
  named name known = known-named d facts name known

  class-tells : (i : ℕ) (c : Class) → KnowsClass count c → AllByRecursion Tells (class_elements (i, c))
  class-tells i c know =
      let own : HasName d.names c.name = named c.name know.name in (
        own,
        (
            made Tells (λ (f : Field). IsKnown count f.name) (Element.AField i c) (λ f known. (own, named f.name known)) c.fields know.fields
            and made Tells (KnowsInjectedField count) (Element.AnInjectedField i c) (λ f known. (own, named f.name known.0)) c.inject know.inject
            and made Tells (λ (k : Constructor). Unit {0}) (Element.AConstructor i c) (λ k known. own) (option_to_list c.constructor) (λ at k below. tt)
            and made Tells (KnowsMember count) (Element.AMember i c) (λ m known. (own, named (member_name m) (member-known count m known))) c.members know.members
            ).each,
      )

  interceptor-tells : (i : ℕ) (j : Interceptor) → KnowsInterceptor count j → AllByRecursion Tells (interceptor_elements (i, j))
  interceptor-tells i j know =
      let own : HasName d.names j.name = named j.name know.name in (
        own,
        (
            made Tells (λ (f : Field). IsKnown count f.name) (Element.AnInterceptorField i j) (λ f known. (own, named f.name known)) j.fields know.fields
            and made Tells (KnowsInjectedField count) (Element.AnInterceptorInjectedField i j) (λ f known. (own, named f.name known.0)) j.inject know.inject
            ).each,
      )

  pub elements-tell : AllByRecursion (λ e. HasNames d.names (place_of e)) (elements_of d)
  elements-tell =
      let known = facts.known in
      (
      made Tells (KnowsInterface count) Element.AnInterface (λ i know. named i.name know.0) d.interfaces known.interfaces
      and made Tells (KnowsAnnotationType count) Element.AQualifier (λ q know. named q.name know.0) d.qualifiers known.qualifiers
      and made Tells (KnowsAnnotationType count) Element.ABinding (λ b know. named b.name know.0) d.bindings known.bindings
      and made Tells (λ (x : Exception). IsKnown count x.name) Element.AnException (λ x know. named x.name know) d.exceptions known.exceptions
      and numbered Tells (KnowsClass count) class_elements class-tells d.classes known.classes
      and numbered Tells (KnowsInterceptor count) interceptor_elements interceptor-tells d.interceptors known.interceptors
      and made Tells (IsKnown count) Element.ASelectedName named d.selected known.selected
      and made Tells (IsKnown count) Element.AnOrderedName named d.order known.order
      and made Tells (λ (s : Script). IsKnown count s.name) Element.AScript (λ s know. named s.name know) d.scripts known.scripts
      ).each
