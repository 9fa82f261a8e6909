-- What stands in a deployment, in the order of its places.
use Rattle.std.specs.Prelude.{ℕ, ◌≡◌, List, ◌∷◌, ◌++◌, map, option_to_list}
use Rattle.std.specs.Borrow.{Bor}
use Rattle.std.specs.List.{flat_map, enumerate_from}
use Rattle.cdi_base.specs.declared.place.Place.{Place}
use Rattle.cdi_base.specs.declared.place.Place.TheVariants as places
use Rattle.cdi_deployment.specs.declared.deployment.AnnotationType.{AnnotationType}
use Rattle.cdi_deployment.specs.declared.deployment.Class.{Class}
use Rattle.cdi_deployment.specs.declared.deployment.Constructor.{Constructor}
use Rattle.cdi_deployment.specs.declared.deployment.Deployment.{Deployment}
use Rattle.cdi_deployment.specs.declared.deployment.Exception.{Exception}
use Rattle.cdi_deployment.specs.declared.deployment.Field.{Field}
use Rattle.cdi_deployment.specs.declared.deployment.InjectedField.{InjectedField}
use Rattle.cdi_deployment.specs.declared.deployment.Interceptor.{Interceptor}
use Rattle.cdi_deployment.specs.declared.deployment.Interface.{Interface}
use Rattle.cdi_deployment.specs.declared.deployment.Member.{Member}
use Rattle.cdi_deployment.specs.declared.deployment.Member.TheVariants as members
use Rattle.cdi_deployment.specs.declared.deployment.Script.{Script}
use Rattle.cdi_problems.specs.declared.element.Element.{Element as Lent}
use Rattle.cdi_problems.specs.declared.element.Element.TheVariants as lent
use Rattle.cdi_deployment.specs.Member.{member_name}

-- One thing that a deployment declares or lists. What stands inside a class or an interceptor comes with it, and with its index among
-- the classes or the interceptors.
pub data Element : Type 0 where
  AnInterface : Interface → Element
  AQualifier : AnnotationType → Element
  ABinding : AnnotationType → Element
  AnException : Exception → Element
  AClass : ℕ → Class → Element
  AField : ℕ → Class → Field → Element
  AnInjectedField : ℕ → Class → InjectedField → Element
  AConstructor : ℕ → Class → Constructor → Element
  AMember : ℕ → Class → Member → Element
  AnInterceptor : ℕ → Interceptor → Element
  AnInterceptorField : ℕ → Interceptor → Field → Element
  AnInterceptorInjectedField : ℕ → Interceptor → InjectedField → Element
  ASelectedName : ℕ → Element
  AnOrderedName : ℕ → Element
  AScript : Script → Element

-- a class: itself, its fields, its injected fields, its constructor, its members
abbrev pub class_elements : ℕ × Class → List Element
class_elements (i, c) =
    Element.AClass i c
    ∷ (map (Element.AField i c) c.fields ++ map (Element.AnInjectedField i c) c.inject
    ++ map (Element.AConstructor i c) (option_to_list c.constructor)
    ++ map (Element.AMember i c) c.members)

-- an interceptor: itself, its fields, its injected fields
abbrev pub interceptor_elements : ℕ × Interceptor → List Element
interceptor_elements (i, j) =
    Element.AnInterceptor i j
    ∷ (map (Element.AnInterceptorField i j) j.fields
    ++ map (Element.AnInterceptorInjectedField i j) j.inject)

-- the elements of a deployment in the order of their places
abbrev pub elements_of : Deployment → List Element
elements_of d =
    map Element.AnInterface d.interfaces ++ map Element.AQualifier d.qualifiers
    ++ map Element.ABinding d.bindings
    ++ map Element.AnException d.exceptions ++ flat_map class_elements (enumerate_from 0 d.classes)
    ++ flat_map interceptor_elements (enumerate_from 0 d.interceptors)
    ++ map Element.ASelectedName d.selected
    ++ map Element.AnOrderedName d.order ++ map Element.AScript d.scripts

-- the place by which problems tell an element
abbrev pub place_of : Element → Place
place_of (Element.AnInterface i) = places.Class i.name
place_of (Element.AQualifier q) = places.Class q.name
place_of (Element.ABinding b) = places.Class b.name
place_of (Element.AnException x) = places.Class x.name
place_of (Element.AClass i c) = places.Class c.name
place_of (Element.AField i c f) = places.Member c.name f.name
place_of (Element.AnInjectedField i c f) = places.Member c.name f.name
place_of (Element.AConstructor i c k) = places.Constructor c.name
place_of (Element.AMember i c m) = places.Member c.name (member_name m)
place_of (Element.AnInterceptor i j) = places.Class j.name
place_of (Element.AnInterceptorField i j f) = places.Member j.name f.name
place_of (Element.AnInterceptorInjectedField i j f) = places.Member j.name f.name
place_of (Element.ASelectedName name) = places.Class name
place_of (Element.AnOrderedName name) = places.Class name
place_of (Element.AScript s) = places.Class s.name

-- the element that the code borrows
abbrev pub element_of : Lent → Element
element_of (lent.Interface i) = Element.AnInterface i.now
element_of (lent.Qualifier q) = Element.AQualifier q.now
element_of (lent.Binding b) = Element.ABinding b.now
element_of (lent.Exception x) = Element.AnException x.now
element_of (lent.Class i c) = Element.AClass i c.now
element_of (lent.Field i c f) = Element.AField i c.now f.now
element_of (lent.InjectedField i c f) = Element.AnInjectedField i c.now f.now
element_of (lent.Constructor i c k) = Element.AConstructor i c.now k.now
element_of (lent.Member i c m) = Element.AMember i c.now m.now
element_of (lent.Interceptor i j) = Element.AnInterceptor i j.now
element_of (lent.InterceptorField i j f) = Element.AnInterceptorField i j.now f.now
element_of (lent.InterceptorInjectedField i j f) = Element.AnInterceptorInjectedField i j.now f.now
element_of (lent.SelectedName name) = Element.ASelectedName name.now
element_of (lent.OrderedName name) = Element.AnOrderedName name.now
element_of (lent.Script s) = Element.AScript s.now

abbrev pub shown : List Lent → List Element
shown = map element_of

-- to some elements is added one for each item of a list: what tells of each item which element is made of it, tells what is added
abbrev pub AddsEach : {X : Type 0} → (Bor X → Lent → Type 0) → List X → List Element → List Element
    → Type 0
AddsEach {X} makes items old new =
    (f : X → Element)
    → ((item : Bor X) (made : Lent) → makes item made → element_of made ≡ f item.now)
    → new ≡ old ++ map f items
