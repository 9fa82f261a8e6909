-- The methods that the machine has of an enabled bean are those that the classes of its line declare.
use Rattle.std.proofs.Common.{ℕ, ◌≡◌, ◌∙◌, true, nat_eq, List, Option, Some, None, refl, sym, ap, subst}
use Rattle.std.specs.Prelude.{option_map}
use Rattle.std.proofs.lemmas.Bool.{and_parts, eqb-true}
use Rattle.std.proofs.lemmas.Option.{same_Some}
use Rattle.std.specs.List.{filter_map, list_any}
use Rattle.cdi_base.specs.Maps.{at}
use Rattle.cdi_base.specs.declared.place.Place.TheVariants as places
use Rattle.cdi_beans.specs.Kinds.{is_managed}
use Rattle.cdi_beans.specs.declared.bean.Bean.{Bean}
use Rattle.cdi_bodies.specs.declared.entry.Entry.{Entry}
use Rattle.cdi_body_check.specs.Shapes.{shape_of}
use Rattle.cdi_plans.specs.Chains.{ChainTables}
use Rattle.cdi_check.specs.Accepted.{AreBodiesSound}
use Rattle.cdi_check.specs.Tables.{setting_by}
use Rattle.cdi_deployment.specs.declared.deployment.Class.{Class}
use Rattle.cdi_deployment.specs.declared.deployment.Constructor.{Constructor}
use Rattle.cdi_deployment.specs.declared.deployment.Deployment.{Deployment}
use Rattle.cdi_deployment.specs.declared.deployment.Member.{Member}
use Rattle.cdi_deployment.specs.declared.deployment.Member.TheVariants as members
use Rattle.cdi_deployment.specs.declared.deployment.Method.{Method}
use Rattle.cdi_machine.specs.Tables as machine
use Rattle.cdi_types.specs.Line.{class_named}
use Rattle.cdi_types.specs.Members.{members_of}
use Rattle.cdi_planner.proofs.Names.{same}
use Rattle.cdi_planner.specs.Codes.{business_method, member_chain, member_code}
use Rattle.cdi_plans.specs.declared.plan.BusinessMethod.{BusinessMethod}
use Rattle.cdi_plans.specs.declared.plan.ManagedPlan.{ManagedPlan}
use Rattle.cdi_resolve.specs.Filters.{enabled_of}
use Rattle.cdi_run_tables.specs.Machine.{AreIdsOf, bean_at, bean_with, id_of, machine_kind, machine_managed, machine_method, machine_methods, method_with}
use Rattle.cdi_run_tables.specs.Planned.{IsTabled}
use Rattle.cdi_run_tables.specs.declared.tables.RunTables.{RunTables}
use Rattle.cdi_shape_check.specs.OwnParts.{declares_method, is_method}
use Rattle.cdi_whole.specs.Fits.{HasMethod}
use Rattle.cdi_accepted.proofs.Beans.{is_kept, kept_at}
use Rattle.cdi_accepted.proofs.FitPlans.{HasPlan}
use Rattle.cdi_accepted.proofs.Duplicates.{IsNamedApart, named_apart}
use Rattle.cdi_accepted.proofs.Lines.{ArePairs, HasFront, front_of, is_listed, is_of_name, pairs_of}
use Rattle.cdi_accepted.proofs.Lists.{Among, among_filter_map, given}
use Rattle.cdi_accepted.proofs.Members.{all_declared, has_declared, of_line}
use Rattle.cdi_body_check.specs.Sites.{Site, member_body}
use Rattle.cdi_accepted.proofs.Bodies.{numbered, registered}
use Rattle.cdi_accepted.proofs.Enabled.{has_flag, known_by, with_plan}
use Rattle.cdi_accepted.proofs.Live.{IsLiveSite, constructor_live, constructor_stands, member_live, member_stands}
use Rattle.cdi_accepted.proofs.Repeats.{Fits, fits}

-- ---- methods of a plan

abbrev planned_method : ChainTables → ℕ → Class → Method → BusinessMethod
planned_method chains bean c m =
    record { name = m.name; code = member_code c m.name m.body; count = m.args; chain = member_chain chains bean c m.name }

-- a method that the machine has comes from one of the plan, and that from one of a class
pub record IsOfPlan (ids : ℕ → Option ℕ) (chains : ChainTables) (bean : ℕ) (line : List Class) (name : ℕ) (m : machine.Method) : Type 0 where
  pub planned : BusinessMethod
  pub stands : Among planned (filter_map (business_method chains bean) (members_of line))
  pub class : Class
  pub method : Method
  pub declared : Among (class, members.Method method) (members_of line)
  pub named : method.name ≡ name
  pub count : m.count ≡ method.args
  pub body : planned.code.body ≡ method.body
  pub id : ids method.body ≡ Some m.code.body
  pub place : m.code.place ≡ places.Member class.name method.name
  pub chain : m.chain ≡ planned.chain
  pub chain_is : planned.chain ≡ member_chain chains bean class method.name

-- a business method by the member that it comes from
record IsOfMember (chains : ChainTables) (bean : ℕ) (p : Class × Member) (planned : BusinessMethod) : Type 0 where
  method : Method
  is : p ≡ (p.0, members.Method method)
  name : planned.name ≡ method.name
  count : planned.count ≡ method.args
  body : planned.code.body ≡ method.body
  place : planned.code.place ≡ places.Member p.0.name method.name
  chain : planned.chain ≡ member_chain chains bean p.0 method.name

of_member : (chains : ChainTables) (bean : ℕ) (p : Class × Member) (planned : BusinessMethod) → business_method chains bean p ≡ Some planned → IsOfMember chains bean p planned
of_member chains bean (c, members.Method m) planned e =
    let is = same_Some _ planned e in
    record {
      method = m;
      is = refl;
      name = ap (λ (k : BusinessMethod). k.name) (sym is);
      count = ap (λ (k : BusinessMethod). k.count) (sym is);
      body = ap (λ (k : BusinessMethod). k.code.body) (sym is);
      place = ap (λ (k : BusinessMethod). k.code.place) (sym is);
      chain = ap (λ (k : BusinessMethod). k.chain) (sym is);
    }
of_member chains bean (c, members.Initializer m) planned e = absurd cc
of_member chains bean (c, members.PostConstruct m) planned e = absurd cc
of_member chains bean (c, members.PreDestroy m) planned e = absurd cc
of_member chains bean (c, members.Producer m) planned e = absurd cc
of_member chains bean (c, members.ProducerField m) planned e = absurd cc
of_member chains bean (c, members.Disposer m) planned e = absurd cc
of_member chains bean (c, members.Observer m) planned e = absurd cc

-- a method of the machine by the one that it comes from
record IsOfMethod (ids : ℕ → Option ℕ) (planned : BusinessMethod) (name : ℕ) (m : machine.Method) : Type 0 where
  named : planned.name ≡ name
  count : m.count ≡ planned.count
  id : ids planned.code.body ≡ Some m.code.body
  place : m.code.place ≡ planned.code.place
  chain : m.chain ≡ planned.chain

of_method : (ids : ℕ → Option ℕ) (planned : BusinessMethod) (name : ℕ) (m : machine.Method) → machine_method ids planned ≡ Some (name, m) → IsOfMethod ids planned name m
of_method ids planned name m e = by (ids planned.code.body) refl e
  where
    by : (o : Option ℕ) → ids planned.code.body ≡ o → option_map (method_with planned) o ≡ Some (name, m) → IsOfMethod ids planned name m
    by None is h = absurd cc
    by (Some body) is h =
        let one = same_Some (method_with planned body) (name, m) h in
        record {
          named = ap (λ (k : ℕ × machine.Method). k.0) one;
          count = sym (ap (λ (k : ℕ × machine.Method). k.1.count) one);
          id = is ∙ ap (λ (k : ℕ × machine.Method). Some k.1.code.body) one;
          place = sym (ap (λ (k : ℕ × machine.Method). k.1.code.place) one);
          chain = sym (ap (λ (k : ℕ × machine.Method). k.1.chain) one);
        }

pub of_plan : (ids : ℕ → Option ℕ) (chains : ChainTables) (bean : ℕ) (line : List Class) (name : ℕ) (m : machine.Method)
    → Among (name, m) (machine_methods ids (filter_map (business_method chains bean) (members_of line))) → IsOfPlan ids chains bean line name m
of_plan ids chains bean line name m a =
    let planned = given (machine_method ids) (filter_map (business_method chains bean) (members_of line)) (name, m) a in
    let found = given (business_method chains bean) (members_of line) planned.item planned.stands in
    let member = of_member chains bean found.item planned.item found.is in
    let method = of_method ids planned.item name m planned.is in
    let P : Class × Member → Type 0 = λ p. Among p (members_of line) in
    record {
      planned = planned.item;
      stands = planned.stands;
      class = found.item.0;
      method = member.method;
      declared = subst P member.is found.stands;
      named = sym member.name ∙ method.named;
      count = method.count ∙ member.count;
      body = member.body;
      id = ap ids (sym member.body) ∙ method.id;
      place = method.place ∙ member.place;
      chain = method.chain;
      chain_is = member.chain;
    }

-- ---- methods of an enabled bean

module _ {X : Type 0} {F : X → Type 0} {g : _} (entries : List (Entry X F g)) (t : RunTables) (tabled : IsTabled t) (ids : AreIdsOf entries t)
    (sound : AreBodiesSound t.deployment (shape_of entries) (setting_by t.deployment t.tables))
    (b : ℕ) (listed : Bean) (enabled : Among (b, listed) (enabled_of t.tables.resolver)) (plan : HasPlan t b listed) where
  abbrev d : Deployment
  d = t.deployment

  abbrev pub managed : machine.Managed
  managed = machine_managed (id_of t) plan.plan

  -- each class of the line, with its own line at the front
  pub front : (c : Class) → Among c plan.line → HasFront d tabled.tables.made.names_well plan.line c
  front c a = front_of d tabled.tables.made.names_well listed.class plan.line plan.is_line c a

  pub declared_class : (c : Class) → Among c plan.line → Among c d.classes
  declared_class c a = is_listed d tabled.tables.made.names_well c.name c (front c a).named

  pub apart : (c : Class) → Among c plan.line → IsNamedApart c
  apart c a = named_apart d tabled.tables.made.names_well c (declared_class c a)

  pub pairs : ArePairs Fits plan.line
  pairs =
      let made = tabled.tables.made in
      pairs_of d made.names_well Fits
      (λ e direct line declared extends is c stands. fits d made.qualifiers made.beans_well e direct line declared extends is c stands)
      listed.class plan.line plan.is_line

  -- the body of a member of the line is a live site
  pub member_site : (p : Class × Member) (body : ℕ) → member_body p.1 ≡ Some body → Among p (members_of plan.line) → IsLiveSite t (Site.AMember p.0 p.1 body)
  member_site p body is stands =
      let of = of_line plan.line p.0 p.1 stands in
      record {
        stands = member_stands d p.0 p.1 body is (declared_class p.0 of.class) of.member;
        live = member_live t b listed enabled plan.line plan.members p.0 p.1 body stands;
      }

  -- and so is that of the constructor
  pub constructor_site : is_managed listed.kind ≡ true → (c : Class) → class_named d.classes listed.class ≡ Some c → (k : Constructor) (body : ℕ) → c.constructor ≡ Some k → k.body ≡ Some body
      → IsLiveSite t (Site.AConstructor c k body)
  constructor_site kind c named k body has is =
      let well = tabled.tables.made.names_well in
      record {
        stands = constructor_stands d c k body has is (is_listed d well listed.class c named);
        live = constructor_live t b listed enabled kind c k body (sym (is_of_name d well listed.class c named));
      }

  -- the machine's methods are those of the line
  pub methods_are : managed.methods ≡ machine_methods (id_of t) (filter_map (business_method t.tables.chains listed.class) (members_of plan.line))
  methods_are = ap (λ (p : ManagedPlan). machine_methods (id_of t) p.methods) plan.is

  pub method_of_plan : (name : ℕ) (m : machine.Method) → at managed.methods name ≡ Some m → IsOfPlan (id_of t) t.tables.chains listed.class plan.line name m
  method_of_plan name m e =
      let P : List (ℕ × machine.Method) → Type 0 = λ ms. Among (name, m) ms in
      of_plan (id_of t) t.tables.chains listed.class plan.line name m (subst P methods_are (kept_at managed.methods name m e))

  -- a method that some class of the line declares is one that the machine has
  pub has_method : (name count : ℕ) → list_any (declares_method name count) plan.line ≡ true → HasMethod managed.methods name count
  has_method name count e =
      let found = has_declared name count plan.line e pairs in
      let site = Site.AMember found.class (members.Method found.method) found.method.body in
      let is_site = member_site (found.class, members.Method found.method) found.method.body refl found.stands in
      let body = registered entries t ids sound site is_site.stands is_site.live in
      let id = numbered entries t ids sound site is_site.stands is_site.live in
      by found.class found.method found.stands found.is body.id id
    where
      by : (c : Class) (m : Method) → Among (c, members.Method m) (members_of plan.line) → is_method name count (members.Method m) ≡ true
          → (id : ℕ) → id_of t m.body ≡ Some id → HasMethod managed.methods name count
      by c m stands is id numbered =
          let planned = planned_method t.tables.chains listed.class c m in
          let listed_method : Among planned (filter_map (business_method t.tables.chains listed.class) (members_of plan.line)) =
          among_filter_map (business_method t.tables.chains listed.class) (members_of plan.line) (c, members.Method m) planned stands refl in
          let entry = method_with planned id in
          let P : List (ℕ × machine.Method) → Type 0 = λ ms. Among entry ms in
          let Q : ℕ → Type 0 = λ n. Among (n, entry.1) managed.methods in
          let one : m.name ≡ name = eqb-true m.name name (and_parts (nat_eq m.name name) (nat_eq m.args count) is).0 in
          let stands_in : Among entry managed.methods =
          subst P (sym methods_are)
          (among_filter_map (machine_method (id_of t)) _ planned entry listed_method (ap (option_map (method_with planned)) numbered)) in
          let kept = is_kept managed.methods name entry.1 (subst Q one stands_in) in
          let from = method_of_plan name kept.value kept.has in
          let method = all_declared name count plan.line e pairs apart from.class (members.Method from.method) from.declared
          (ap (λ n. nat_eq n name) from.named ∙ same name) in
          record {
            method = kept.value;
            has = kept.has;
            takes = from.count ∙ eqb-true from.method.args count (and_parts (nat_eq from.method.name name) (nat_eq from.method.args count) method).1;
          }

  -- the bean as the machine has it
  pub known : bean_at t b ≡ Some (bean_with plan.planned (machine.Kind.Class managed))
  known =
      known_by t b plan.planned (with_plan t b plan.planned (has_flag t b listed enabled) plan.has)
      ∙ ap (λ p. option_map (bean_with plan.planned) (machine_kind (id_of t) t.tables.resolver.beans p)) plan.is_plan
