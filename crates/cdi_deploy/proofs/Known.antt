-- What each kind of object stands for has only names of the table that covers it.
use Rattle.std.proofs.Common.{◌≡◌, ◌∙◌, ℕ, Bool, true, false, bytes_eq, List, [], length, codes, Option, Some, None, option_map, option_and_then, find, if◌then◌else◌, IfSome, refl, sym, ap}
use Rattle.std.specs.List.{All}
use Rattle.cdi_form.specs.declared.form.Kind.{Kind}
use Rattle.cdi_form.specs.declared.form.Kind.TheVariants as kinds
use Rattle.cdi_form.specs.declared.form.Part.{Part}
use Rattle.cdi_form.specs.declared.form.Part.TheVariants as parts
use Rattle.cdi_form.specs.Table.{rows, required, optional}
use Rattle.cdi_form.specs.Form.{row_in, item_part}
use Rattle.cdi_form.specs.Keys.{kind_of, has_right_keys}
use Rattle.cdi_form.specs.NamePlaces.{StandsAsName, in_object}
use Rattle.cdi_form.specs.Shape.{in_kind, wrong_members}
use Rattle.cdi_form.specs.Words.{Word, member_words, member_kind}
use Rattle.serde_json.specs.Data.{Data, null, boolean, number, string, array, object, Members}
use Rattle.serde_json.specs.Find.{get, get_member, as_str}
use Rattle.cdi_deploy.specs.Items.{each_at, maybe_at, name_at, name_in, names_in, use_in_table, interface_in, annotation_type_in, exception_in, bean_in, field_in, injected_field_in, point_in, constructor_in, interceptor_in, method_in, initializer_in, callback_in, producer_in, producer_field_in, disposer_in, observer_in, member_of, member_in, class_in, script_in, lists_in}
use Rattle.cdi_deployment.specs.KnownNames.{IsKnown, AreKnown, KnowsUse, KnowsUses, KnowsInterface, KnowsAnnotationType, KnowsBean, KnowsInjectedField, KnowsPoint, KnowsConstructor, KnowsInterceptor, KnowsMember, KnowsClass, KnowsNames}
use Rattle.cdi_deploy.specs.Parts.{text_of}
use Rattle.cdi_deployment.specs.declared.deployment.Member.TheVariants as members
use Rattle.cdi_deploy.proofs.Covered.{found-passes, Covers, covers-key, name-known, maybe-known, list-known, knows-name, knows-names, knows-use}

module _ (names : List (List ℕ)) where
  abbrev count : ℕ
  count = length names

  abbrev IsCovered : Part → Data → Type 0
  IsCovered part d = Covers names part d

  -- in an object of a kind: a name that has to be there, one that may be missing, names, those that restrict types, uses, and a list of objects
  module _ (kind : Kind) (d : Data) (c : IsCovered (parts.Object kind) d) where
    name-at : (key : List ℕ) → row_in (rows kind) key ≡ Some (required key parts.Name) → IsKnown count (name_at names key d)
    name-at key found =
        name-known names key (get key d) (covers-key names kind (required key parts.Name) found d c)

    maybe-name-at : (key : List ℕ) → row_in (rows kind) key ≡ Some (optional key parts.Name)
        → IfSome (maybe_at (name_in names) key d) (IsKnown count)
    maybe-name-at key found =
        maybe-known names (IsKnown count) (name_in names) (optional key parts.Name) (knows-name names) (get key d)
        (covers-key names kind (optional key parts.Name) found d c)

    names-at : (key : List ℕ) → row_in (rows kind) key ≡ Some (optional key parts.Names) → AreKnown count (each_at (name_in names) key d)
    names-at key found =
        list-known names (IsKnown count) (name_in names) parts.Name (knows-name names) (optional key parts.Names) refl (get key d)
        (covers-key names kind (optional key parts.Names) found d c)

    typed-at : (key : List ℕ) → row_in (rows kind) key ≡ Some (optional key parts.Names)
        → IfSome (maybe_at (names_in names) key d) (AreKnown count)
    typed-at key found =
        maybe-known names (AreKnown count) (names_in names) (optional key parts.Names) (knows-names names) (get key d)
        (covers-key names kind (optional key parts.Names) found d c)

    uses-at : (key : List ℕ) → row_in (rows kind) key ≡ Some (optional key parts.Uses)
        → KnowsUses count (each_at (use_in_table names) key d)
    uses-at key found =
        list-known names (KnowsUse count) (use_in_table names) parts.Use (knows-use names) (optional key parts.Uses) refl (get key d)
        (covers-key names kind (optional key parts.Uses) found d c)

    some-uses-at : (key : List ℕ) → row_in (rows kind) key ≡ Some (required key parts.SomeUses)
        → KnowsUses count (each_at (use_in_table names) key d)
    some-uses-at key found =
        list-known names (KnowsUse count) (use_in_table names) parts.Use (knows-use names) (required key parts.SomeUses) refl (get key d)
        (covers-key names kind (required key parts.SomeUses) found d c)

    module _ {X : Type 0} (P : X → Type 0) (f : Data → X) (inner : Part) (one : (e : Data) → IsCovered inner e → P (f e)) where
      list-at : (key : List ℕ) (part : Part) → item_part part ≡ Some inner → row_in (rows kind) key ≡ Some (optional key part)
          → All P (each_at f key d)
      list-at key part of_items found =
          list-known names P f inner one (optional key part) of_items (get key d)
          (covers-key names kind (optional key part) found d c)

      object-at : (key : List ℕ) → row_in (rows kind) key ≡ Some (optional key inner) → IfSome (maybe_at f key d) P
      object-at key found =
          maybe-known names P f (optional key inner) one (get key d) (covers-key names kind (optional key inner) found d c)

  interface-knows : (d : Data) → IsCovered (parts.Object kinds.Interface) d → KnowsInterface count (interface_in names d)
  unfolding interface_in
  interface-knows d c = (
    name-at kinds.Interface d c (codes "name") refl,
    names-at kinds.Interface d c (codes "extends") refl,
  )

  annotation_type-knows : (d : Data) → IsCovered (parts.Object kinds.AnnotationType) d → KnowsAnnotationType count (annotation_type_in names d)
  unfolding annotation_type_in
  annotation_type-knows d c = (
    name-at kinds.AnnotationType d c (codes "name") refl,
    names-at kinds.AnnotationType d c (codes "members") refl,
    names-at kinds.AnnotationType d c (codes "nonbinding") refl,
  )

  exception-knows : (d : Data) → IsCovered (parts.Object kinds.Exception) d → IsKnown count (exception_in names d).name
  unfolding exception_in
  exception-knows d c = name-at kinds.Exception d c (codes "name") refl

  field-knows : (d : Data) → IsCovered (parts.Object kinds.Field) d → IsKnown count (field_in names d).name
  unfolding field_in
  field-knows d c = name-at kinds.Field d c (codes "name") refl

  script-knows : (d : Data) → IsCovered (parts.Object kinds.Script) d → IsKnown count (script_in names d).name
  unfolding script_in
  script-knows d c = name-at kinds.Script d c (codes "name") refl

  bean-knows : (d : Data) → IsCovered (parts.Object kinds.Bean) d → KnowsBean count (bean_in names d)
  unfolding bean_in
  bean-knows d c = (
    uses-at kinds.Bean d c (codes "quals") refl,
    typed-at kinds.Bean d c (codes "typed") refl,
  )

  injected_field-knows : (d : Data) → IsCovered (parts.Object kinds.InjectedField) d → KnowsInjectedField count (injected_field_in names d)
  unfolding injected_field_in
  injected_field-knows d c = (
    name-at kinds.InjectedField d c (codes "name") refl,
    name-at kinds.InjectedField d c (codes "type") refl,
    uses-at kinds.InjectedField d c (codes "quals") refl,
  )

  point-knows : (d : Data) → IsCovered (parts.Object kinds.Point) d → KnowsPoint count (point_in names d)
  unfolding point_in
  point-knows d c = (
    name-at kinds.Point d c (codes "type") refl,
    uses-at kinds.Point d c (codes "quals") refl,
  )

  constructor-knows : (d : Data) → IsCovered (parts.Object kinds.Constructor) d → KnowsConstructor count (constructor_in names d)
  unfolding constructor_in
  constructor-knows d c = (
    list-at kinds.Constructor d c (KnowsPoint count) (point_in names) (parts.Object kinds.Point) point-knows (codes "params") (parts.Objects kinds.Point) refl refl,
    maybe-name-at kinds.Constructor d c (codes "body") refl,
  )

  interceptor-knows : (d : Data) → IsCovered (parts.Object kinds.Interceptor) d → KnowsInterceptor count (interceptor_in names d)
  unfolding interceptor_in
  interceptor-knows d c = record {
    name = name-at kinds.Interceptor d c (codes "name") refl;
    bindings = some-uses-at kinds.Interceptor d c (codes "bindings") refl;
    fields = list-at kinds.Interceptor d c (λ f. IsKnown count f.name) (field_in names) (parts.Object kinds.Field) field-knows (codes "fields") (parts.Objects kinds.Field) refl refl;
    inject = list-at kinds.Interceptor d c (KnowsInjectedField count) (injected_field_in names) (parts.Object kinds.InjectedField) injected_field-knows (codes "inject") (parts.Objects kinds.InjectedField) refl refl;
    invoke = maybe-name-at kinds.Interceptor d c (codes "invoke") refl;
    construct = maybe-name-at kinds.Interceptor d c (codes "construct") refl;
    post = maybe-name-at kinds.Interceptor d c (codes "post") refl;
    pre = maybe-name-at kinds.Interceptor d c (codes "pre") refl;
  }

  method-knows : (d : Data) → IsCovered (parts.Object kinds.Method) d → KnowsMember count (members.Method (method_in names d))
  unfolding method_in
  method-knows d c = (
    name-at kinds.Method d c (codes "name") refl,
    name-at kinds.Method d c (codes "body") refl,
    uses-at kinds.Method d c (codes "bindings") refl,
  )

  initializer-knows : (d : Data) → IsCovered (parts.Object kinds.Initializer) d → KnowsMember count (members.Initializer (initializer_in names d))
  unfolding initializer_in
  initializer-knows d c = (
    name-at kinds.Initializer d c (codes "name") refl,
    name-at kinds.Initializer d c (codes "body") refl,
    list-at kinds.Initializer d c (KnowsPoint count) (point_in names) (parts.Object kinds.Point) point-knows (codes "params") (parts.Objects kinds.Point) refl refl,
  )

  post_construct-knows : (d : Data) → IsCovered (parts.Object kinds.PostConstruct) d → KnowsMember count (members.PostConstruct (callback_in names d))
  unfolding callback_in
  post_construct-knows d c = (
    name-at kinds.PostConstruct d c (codes "name") refl,
    name-at kinds.PostConstruct d c (codes "body") refl,
  )

  pre_destroy-knows : (d : Data) → IsCovered (parts.Object kinds.PreDestroy) d → KnowsMember count (members.PreDestroy (callback_in names d))
  unfolding callback_in
  pre_destroy-knows d c = (
    name-at kinds.PreDestroy d c (codes "name") refl,
    name-at kinds.PreDestroy d c (codes "body") refl,
  )

  producer-knows : (d : Data) → IsCovered (parts.Object kinds.Producer) d → KnowsMember count (members.Producer (producer_in names d))
  unfolding producer_in
  producer-knows d c = (
    name-at kinds.Producer d c (codes "name") refl,
    name-at kinds.Producer d c (codes "body") refl,
    name-at kinds.Producer d c (codes "type") refl,
    uses-at kinds.Producer d c (codes "quals") refl,
    typed-at kinds.Producer d c (codes "typed") refl,
    list-at kinds.Producer d c (KnowsPoint count) (point_in names) (parts.Object kinds.Point) point-knows (codes "params") (parts.Objects kinds.Point) refl refl,
    uses-at kinds.Producer d c (codes "bindings") refl,
  )

  producer_field-knows : (d : Data) → IsCovered (parts.Object kinds.ProducerField) d → KnowsMember count (members.ProducerField (producer_field_in names d))
  unfolding producer_field_in
  producer_field-knows d c = (
    name-at kinds.ProducerField d c (codes "name") refl,
    name-at kinds.ProducerField d c (codes "field") refl,
    name-at kinds.ProducerField d c (codes "type") refl,
    uses-at kinds.ProducerField d c (codes "quals") refl,
    typed-at kinds.ProducerField d c (codes "typed") refl,
  )

  disposer-knows : (d : Data) → IsCovered (parts.Object kinds.Disposer) d → KnowsMember count (members.Disposer (disposer_in names d))
  unfolding disposer_in
  disposer-knows d c = (
    name-at kinds.Disposer d c (codes "name") refl,
    name-at kinds.Disposer d c (codes "body") refl,
    name-at kinds.Disposer d c (codes "type") refl,
    uses-at kinds.Disposer d c (codes "quals") refl,
    list-at kinds.Disposer d c (KnowsPoint count) (point_in names) (parts.Object kinds.Point) point-knows (codes "params") (parts.Objects kinds.Point) refl refl,
    uses-at kinds.Disposer d c (codes "bindings") refl,
  )

  observer-knows : (d : Data) → IsCovered (parts.Object kinds.Observer) d → KnowsMember count (members.Observer (observer_in names d))
  unfolding observer_in
  observer-knows d c = (
    name-at kinds.Observer d c (codes "name") refl,
    name-at kinds.Observer d c (codes "body") refl,
    name-at kinds.Observer d c (codes "type") refl,
    uses-at kinds.Observer d c (codes "quals") refl,
    list-at kinds.Observer d c (KnowsPoint count) (point_in names) (parts.Object kinds.Point) point-knows (codes "params") (parts.Objects kinds.Point) refl refl,
    uses-at kinds.Observer d c (codes "bindings") refl,
  )

  -- ---- members

  abbrev is_member : Kind → Bool
  is_member kinds.Method = true
  is_member kinds.Initializer = true
  is_member kinds.PostConstruct = true
  is_member kinds.PreDestroy = true
  is_member kinds.Producer = true
  is_member kinds.ProducerField = true
  is_member kinds.Disposer = true
  is_member kinds.Observer = true
  is_member _ = false

  meaning-of : (word : List ℕ) (k : Kind) → member_kind word ≡ Some k → is_member k ≡ true
  meaning-of word k e = by (find (λ w. bytes_eq w.text word) member_words) refl e
    where
      by : (o : Option (Word Kind)) → find (λ w. bytes_eq w.text word) member_words ≡ o → option_map (λ w. w.meaning) o ≡ Some k → is_member k ≡ true
      by None is h = absurd cc
      by (Some w) is h =
          let same : w.meaning ≡ k = cc in
          ap is_member (sym same) ∙ found-passes (λ v. is_member v.meaning) (λ v. bytes_eq v.text word) member_words w refl is

  of-kind : (k : Kind) → is_member k ≡ true → (d : Data) → IsCovered (parts.Object k) d → KnowsMember count (member_of (Some k) names d)
  unfolding member_of
  of-kind kinds.Method is d c = method-knows d c
  of-kind kinds.Initializer is d c = initializer-knows d c
  of-kind kinds.PostConstruct is d c = post_construct-knows d c
  of-kind kinds.PreDestroy is d c = pre_destroy-knows d c
  of-kind kinds.Producer is d c = producer-knows d c
  of-kind kinds.ProducerField is d c = producer_field-knows d c
  of-kind kinds.Disposer is d c = disposer-knows d c
  of-kind kinds.Observer is d c = observer-knows d c
  of-kind _ is d c = absurd cc

  -- what stands as a name in a member does so in the object that it is
  stands-in_member : (ms : Members) (k : Kind) → kind_of parts.Member ms ≡ Some k → (s : List ℕ) → StandsAsName s (parts.Object k) (object ms)
      → StandsAsName s parts.Member (object ms)
  stands-in_member ms k is s (in_object outer inner all kind key d of_kind h at stands) = in_object parts.Member inner ms kind key d (is ∙ of_kind) h at stands

  member-knows : (d : Data) → IsCovered parts.Member d → KnowsMember count (member_in names d)
  member-knows (object ms) c = by_word (get_member (codes "kind") ms) refl c.right
    where
      by_kind : (word : List ℕ) → get_member (codes "kind") ms ≡ Some (string word) → (o : Option Kind) → member_kind word ≡ o
          → in_kind o (λ kind. if has_right_keys kind ms then wrong_members ms kind else Some []) ≡ None
          → KnowsMember count (member_of (member_kind word) names (object ms))
      by_kind word at None is e = absurd cc
      by_kind word at (Some k) is e =
          let kind : kind_of parts.Member ms ≡ Some k = ap (λ o. option_and_then member_kind (option_and_then as_str o)) at ∙ is in
          rw is (of-kind k (meaning-of word k is) (object ms) (record { right = e; known = λ s stands. c.known s (stands-in_member ms k kind s stands) }))

      by_word : (o : Option Data) → get_member (codes "kind") ms ≡ o
          → in_kind (option_and_then member_kind (option_and_then as_str o)) (λ kind. if has_right_keys kind ms then wrong_members ms kind else Some []) ≡ None
          → KnowsMember count (member_of (member_kind (text_of o)) names (object ms))
      by_word None at e = absurd cc
      by_word (Some (string word)) at e = by_kind word at (member_kind word) refl e
      by_word (Some d) at e = absurd cc
  member-knows null c = let e = c.right in absurd cc
  member-knows (boolean b) c = let e = c.right in absurd cc
  member-knows (number n) c = let e = c.right in absurd cc
  member-knows (string s) c = let e = c.right in absurd cc
  member-knows (array ds) c = let e = c.right in absurd cc

  -- ---- classes and the whole

  class-knows : (d : Data) → IsCovered (parts.Object kinds.Class) d → KnowsClass count (class_in names d)
  unfolding class_in
  class-knows d c = record {
    name = name-at kinds.Class d c (codes "name") refl;
    extends = maybe-name-at kinds.Class d c (codes "extends") refl;
    implements = names-at kinds.Class d c (codes "implements") refl;
    bindings = uses-at kinds.Class d c (codes "bindings") refl;
    bean = object-at kinds.Class d c (KnowsBean count) (bean_in names) (parts.Object kinds.Bean) bean-knows (codes "bean") refl;
    fields = list-at kinds.Class d c (λ f. IsKnown count f.name) (field_in names) (parts.Object kinds.Field) field-knows (codes "fields") (parts.Objects kinds.Field) refl refl;
    inject = list-at kinds.Class d c (KnowsInjectedField count) (injected_field_in names) (parts.Object kinds.InjectedField) injected_field-knows (codes "inject") (parts.Objects kinds.InjectedField) refl refl;
    constructor = object-at kinds.Class d c (KnowsConstructor count) (constructor_in names) (parts.Object kinds.Constructor) constructor-knows (codes "constructor") refl;
    members = list-at kinds.Class d c (KnowsMember count) (member_in names) parts.Member member-knows (codes "members") parts.Members refl refl;
  }

  pub lists-know : (d : Data) → IsCovered (parts.Object kinds.Deployment) d → KnowsNames (lists_in names d)
  unfolding lists_in
  lists-know d c = record {
    interfaces = list-at kinds.Deployment d c (KnowsInterface count) (interface_in names) (parts.Object kinds.Interface) interface-knows (codes "interfaces") (parts.Objects kinds.Interface) refl refl;
    qualifiers = list-at kinds.Deployment d c (KnowsAnnotationType count) (annotation_type_in names) (parts.Object kinds.AnnotationType) annotation_type-knows (codes "qualifiers") (parts.Objects kinds.AnnotationType) refl refl;
    bindings = list-at kinds.Deployment d c (KnowsAnnotationType count) (annotation_type_in names) (parts.Object kinds.AnnotationType) annotation_type-knows (codes "bindings") (parts.Objects kinds.AnnotationType) refl refl;
    exceptions = list-at kinds.Deployment d c (λ e. IsKnown count e.name) (exception_in names) (parts.Object kinds.Exception) exception-knows (codes "exceptions") (parts.Objects kinds.Exception) refl refl;
    classes = list-at kinds.Deployment d c (KnowsClass count) (class_in names) (parts.Object kinds.Class) class-knows (codes "classes") (parts.Objects kinds.Class) refl refl;
    interceptors = list-at kinds.Deployment d c (KnowsInterceptor count) (interceptor_in names) (parts.Object kinds.Interceptor) interceptor-knows (codes "interceptors") (parts.Objects kinds.Interceptor) refl refl;
    selected = names-at kinds.Deployment d c (codes "selected") refl;
    order = names-at kinds.Deployment d c (codes "order") refl;
    scripts = list-at kinds.Deployment d c (λ s. IsKnown count s.name) (script_in names) (parts.Object kinds.Script) script-knows (codes "scripts") (parts.Objects kinds.Script) refl refl;
  }
