-- The managed beans of a deployment without problems are a forest: what a bean specializes stands above it among the types.
use Rattle.std.proofs.Common.{◌≡◌, ◌∙◌, ℕ, zero, suc, ◌<◌, ◌≤◌, Bool, true, false, cond, nat_eq, List, [], ◌∷◌, ◌++◌, length, map, get_or, slice_get, Option, Some, None, option_map, option_and_then, option_to_list, refl, sym, ap, subst, inl, inr, true≢false, arith}
use Rattle.std.proofs.lemmas.Bool.{cases_lt, eqb-true}
use Rattle.std.proofs.lemmas.List.{get_or_past, length-map}
use Rattle.std.proofs.lemmas.List.Elements.{Contains-append_right, All-weaker, All-contains_itself}
use Rattle.std.proofs.lemmas.List.Quantifiers.{position-Some}
use Rattle.std.proofs.lemmas.Option.{same_Some, slice_get-map, get_or_from_slice_get}
use Rattle.std.specs.List.{AllByRecursion, AllZip, Contains, flat_map}
use Rattle.cdi_deployment.specs.declared.deployment.Class.{Class}
use Rattle.cdi_deployment.specs.declared.deployment.Deployment.{Deployment}
use Rattle.cdi_deployment.specs.declared.deployment.Member.{Member}
use Rattle.cdi_quals.specs.declared.types.QualifierType.{QualifierType}
use Rattle.cdi_paths.specs.Graph.{targets_of, Path}
use Rattle.cdi_types.specs.Declarations.{of_class}
use Rattle.cdi_types.specs.Subtype.{IsAcyclic}
use Rattle.cdi_types.proofs.Listed.{not_in_none, first_or_later}
use Rattle.cdi_types.proofs.Steps.{steps_of}
use Rattle.cdi_name_check.proofs.SoundTypes.{sound_types}
use Rattle.cdi_bean_check.specs.ManagedBeans.{is_bean}
use Rattle.cdi_bean_check.specs.Qualifiers.{specialized_bean}
use Rattle.cdi_beans.specs.Beans.{Source, IsBeanOf, products_in, sources_in}
use Rattle.cdi_beans.specs.Problems.{IsMadeOf}
use Rattle.cdi_beans.specs.declared.bean.Bean.{Bean}
use Rattle.cdi_beans.specs.declared.bean.BeanList.{BeanList}
use Rattle.cdi_beans.proofs.Specialized.{acyclic_classes, steps-fall_specialized}
use Rattle.cdi_enable.specs.declared.managed_bean.ManagedBean.{ManagedBean}
use Rattle.cdi_enable.specs.Enabled.{graph_of, IsForest}
use Rattle.cdi_beans.specs.Kinds.{is_managed}
use Rattle.cdi_enable.specs.Enablement.{managed_beans, classes_of, bean_of_class, managed_bean, enablement_of}

-- a class that is a bean's, with what the bean specializes
record IsOfClass (classes : List Class) (b : Bean) : Type 0 where
  pub class : Class
  pub listed : Contains classes class
  pub named : b.class ≡ class.name
  pub specializes : b.specializes ≡ option_map (λ s. s.name) (specialized_bean classes class)

-- the classes that are sources are listed
IsListed : List Class → Source → Type 0
IsListed classes (Source.AClass c) = Contains classes c
IsListed classes (Source.AProducer c m) = Unit {0}

of_source : (d : Deployment) (qualifiers : List QualifierType) {s : Source} {b : Bean} → IsListed d.classes s → IsBeanOf d qualifiers s b → is_managed b.kind ≡ true → IsOfClass d.classes b
unfolding IsListed
of_source d qualifiers listed (IsBeanOf.managed {c = c} uses declared managed with) is = record { class = c; listed = listed; named = declared.class; specializes = managed.specializes }
of_source d qualifiers listed (IsBeanOf.produced product with) is = absurd (true≢false (sym is ∙ ap is_managed with.kind_is))
of_source d qualifiers listed (IsBeanOf.held product with) is = absurd (true≢false (sym is ∙ ap is_managed with.kind_is))

managed_of_class : (d : Deployment) (qualifiers : List QualifierType) (sources : List Source) (beans : List Bean) → AllByRecursion (IsListed d.classes) sources → AllZip (IsBeanOf d qualifiers) sources beans
    → AllByRecursion (IsOfClass d.classes) (managed_beans beans)
managed_of_class d qualifiers [] [] listed are = tt
managed_of_class d qualifiers [] (b ∷ bs) listed are = absurd are
managed_of_class d qualifiers (s ∷ ss) [] listed are = absurd are
managed_of_class d qualifiers (s ∷ ss) (b ∷ bs) listed are = by (is_managed b.kind) refl (managed_of_class d qualifiers ss bs listed.1 are.1)
  where
    by : (r : Bool) → is_managed b.kind ≡ r → AllByRecursion (IsOfClass d.classes) (managed_beans bs) → AllByRecursion (IsOfClass d.classes) (cond r (b ∷ managed_beans bs) (managed_beans bs))
    by true is rest = (of_source d qualifiers listed.0 are.0 is, rest)
    by false is rest = rest

joined : {X : Type 0} (P : X → Type 0) (xs ys : List X) → AllByRecursion P xs → AllByRecursion P ys → AllByRecursion P (xs ++ ys)
joined P [] ys these those = those
joined P (x ∷ xs) ys these those = (these.0, joined P xs ys these.1 those)

products_listed : (classes : List Class) (c : Class) (ms : List Member) → AllByRecursion (IsListed classes) (map (Source.AProducer c) ms)
unfolding IsListed
products_listed classes c [] = tt
products_listed classes c (m ∷ ms) = (tt, products_listed classes c ms)

class_listed : (classes : List Class) (c : Class) → Contains classes c → AllByRecursion (IsListed classes) (sources_in c)
unfolding IsListed
class_listed classes c listed = by (is_bean c)
  where
    by : (r : Bool) → AllByRecursion (IsListed classes) (cond r (Source.AClass c ∷ products_in c c.members) [])
    by true = (listed, products_listed classes c _)
    by false = tt

sources_listed : (classes cs : List Class) → ((c : Class) → Contains cs c → Contains classes c) → AllByRecursion (IsListed classes) (flat_map sources_in cs)
sources_listed classes [] are = tt
sources_listed classes (c ∷ cs) are =
    joined (IsListed classes) (sources_in c) (flat_map sources_in cs) (class_listed classes c (are c (0, omega arith, refl)))
    (sources_listed classes cs (λ k e. are k (Contains-append_right (c ∷ []) cs k e)))

-- what holds of each holds at a place
at_index : {X : Type 0} (P : X → Type 0) (xs : List X) (i : ℕ) (x : X) → AllByRecursion P xs → slice_get xs i ≡ Some x → P x
at_index P [] i x all e = absurd cc
at_index P (y ∷ ys) zero x all e = subst P (same_Some y x e) all.0
at_index P (y ∷ ys) (suc i) x all e = at_index P ys i x all.1 e

-- a target in a row that is made of an item
made_row : {X Y : Type 0} (f : Y → List ℕ) (g : X → Y) (xs : List X) (i j : ℕ) (d : List ℕ) → i < length (map f (map g xs)) → Contains (get_or (map f (map g xs)) i d) j → (x : X) × (slice_get xs i ≡ Some x) × Contains (f (g x)) j
made_row f g [] i j d lt e = absurd (omega (arith, lt))
made_row f g (x ∷ xs) zero j d lt e = (x, refl, e)
made_row f g (x ∷ xs) (suc i) j d lt e = made_row f g xs i j d (omega (arith, lt)) e

in_option : (o : Option ℕ) (j : ℕ) → Contains (option_to_list o) j → o ≡ Some j
in_option None j e = absurd (not_in_none [] j refl e)
in_option (Some k) j e =
    elim (first_or_later k [] j e) [ inl same ↦ ap Some same | inr nowhere ↦ absurd (not_in_none [] j refl nowhere) ]

some_first : (f : ℕ → Option ℕ) (o : Option ℕ) (j : ℕ) → option_and_then f o ≡ Some j → (name : ℕ) × (o ≡ Some name) × (f name ≡ Some j)
some_first f None j e = absurd cc
some_first f (Some name) j e = (name, refl, e)

some_named : (o : Option Class) (name : ℕ) → Some name ≡ option_map (λ s. s.name) o → (s : Class) × (o ≡ Some s) × (s.name ≡ name)
some_named None name e = absurd cc
some_named (Some s) name e = (s, refl, same_Some s.name name (sym e))

module _ (d : Deployment) (acyclic : IsAcyclic (map of_class d.classes)) (selected : List ℕ) (managed : List Bean) (are : AllByRecursion (IsOfClass d.classes) managed) where
  abbrev nodes : List ManagedBean
  nodes = map (managed_bean (classes_of managed) selected) managed

  abbrev row : ManagedBean → List ℕ
  row b = option_to_list b.specializes

  -- how many steps lead up from a bean's class
  rank : ℕ → ℕ
  rank i = steps_of (map of_class d.classes) (get_or (classes_of managed) i 0)

  class_at : (i : ℕ) (b : Bean) → slice_get managed i ≡ Some b → get_or (classes_of managed) i 0 ≡ b.class
  class_at i b e = get_or_from_slice_get (classes_of managed) i b.class 0 (slice_get-map (λ (k : Bean). k.class) managed i ∙ ap (option_map (λ (k : Bean). k.class)) e)

  -- a bean that is specialized, by the place of its class
  record Leads (i j : ℕ) : Type 0 where
    pub from : Bean
    pub at : slice_get managed i ≡ Some from
    pub name : ℕ
    pub specialized : from.specializes ≡ Some name
    pub place : bean_of_class (classes_of managed) name ≡ Some j

  leads : (i j : ℕ) (e : List ℕ) → i < length (graph_of nodes) → Contains (get_or (graph_of nodes) i e) j → Leads i j
  leads i j e lt there =
      let r = made_row row (managed_bean (classes_of managed) selected) managed i j e lt there in
      let s = some_first (bean_of_class (classes_of managed)) r.0.specializes j (in_option (option_and_then (bean_of_class (classes_of managed)) r.0.specializes) j r.2) in
      record { from = r.0; at = r.1; name = s.0; specialized = s.1; place = s.2 }

  edge_leads : (i j : ℕ) → Contains (targets_of (graph_of nodes) i) j → Leads i j
  edge_leads i j there =
      elim (cases_lt i (length (graph_of nodes))) [
        | inl lt ↦ leads i j [] lt there
        | inr le ↦ absurd (not_in_none (targets_of (graph_of nodes) i) j (get_or_past (graph_of nodes) i [] le) there)
      ]

  placed : (name j : ℕ) → bean_of_class (classes_of managed) name ≡ Some j → (j < length managed) × (get_or (classes_of managed) j 0 ≡ name)
  placed name j e =
      let p = position-Some (λ (c : ℕ). nat_eq c name) (classes_of managed) j 0 e in
      (omega (arith, p.0, length-map managed (λ (b : Bean). b.class)), eqb-true _ _ p.1)

  lower : (i j : ℕ) → Leads i j → rank j < rank i
  unfolding rank
  lower i j l =
      let of = at_index (IsOfClass d.classes) managed i l.from are l.at in
      let s = some_named (specialized_bean d.classes of.class) l.name (sym l.specialized ∙ of.specializes) in
      let falls = steps-fall_specialized d.classes acyclic of.class s.0 of.listed s.1 in
      let steps : ℕ → ℕ = steps_of (map of_class d.classes) in
      let above : steps (get_or (classes_of managed) j 0) ≡ steps s.0.name = ap steps ((placed l.name j l.place).1 ∙ sym s.2) in
      let below : steps (get_or (classes_of managed) i 0) ≡ steps of.class.name = ap steps (class_at i l.from l.at ∙ of.named) in
      omega (arith, falls, above, below)

  not_higher : {i j : ℕ} → Path (graph_of nodes) i j → rank j ≤ rank i
  not_higher Path.here = omega arith
  not_higher {i} {j} (Path.step {b = m} e p) = omega (arith, not_higher p, lower i m (edge_leads i m e))

  within : (i : ℕ) (e : List ℕ) → i < length (graph_of nodes) → (j : ℕ) → Contains (get_or (graph_of nodes) i e) j → j < length (graph_of nodes)
  within i e lt j there =
      let l = leads i j e lt there in
      omega (arith, (placed l.name j l.place).0, length-map managed (managed_bean (classes_of managed) selected), length-map nodes row)

  is_forest : IsForest nodes
  is_forest = record {
    known = λ i e lt. All-weaker (Contains (get_or (graph_of nodes) i e)) (λ j. j < length (graph_of nodes)) (within i e lt) (get_or (graph_of nodes) i e) (All-contains_itself (get_or (graph_of nodes) i e));
    acyclic = λ b p. omega (arith, lower b p.0 (edge_leads b p.0 p.1), not_higher p.2);
  }

pub forest_of : (d : Deployment) (list : BeanList) → IsMadeOf d list → IsForest (enablement_of list).managed
forest_of d list made =
    let sources = sources_listed d.classes d.classes (λ c e. e) in
    is_forest d (acyclic_classes d (sound_types d made.names_well).acyclic) list.selected (managed_beans list.beans)
    (managed_of_class d made.qualifiers (flat_map sources_in d.classes) list.beans sources made.is.beans)
