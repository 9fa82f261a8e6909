-- What a product comes from, and what disposes of it (Jakarta CDI 4.0, Lifecycle of producer methods, Lifecycle of producer fields).
use Rattle.std.specs.Prelude.{ℕ, ◌≡◌, ◌==◌, Bool, false, List, Option, Some, None, option_map, option_and_then}
use Rattle.std.specs.List.{find, filter_map}
use Rattle.cdi_bean_rules.specs.Disposers.{Disposes}
use Rattle.cdi_beans.specs.declared.bean.BeanKind.{BeanKind}
use Rattle.cdi_beans.specs.declared.bean.BeanKind.TheVariants as kinds
use Rattle.cdi_plans.specs.Chains.{ChainTables}
use Rattle.cdi_deployment.specs.declared.deployment.Class.{Class}
use Rattle.cdi_deployment.specs.declared.deployment.Member.{Member}
use Rattle.cdi_deployment.specs.declared.deployment.Member.TheVariants as members
use Rattle.cdi_types.specs.Line.{class_named}
use Rattle.cdi_quals.specs.declared.types.QualifierType.{QualifierType}
use Rattle.cdi_types.specs.ListsThose.{ListsThose}
use Rattle.cdi_types.specs.declared.declaration.TypeDeclaration.{TypeDeclaration}
use Rattle.cdi_planner.specs.Codes.{injected_method}
use Rattle.cdi_planner.specs.Tables.{PlanTables}
use Rattle.cdi_plans.specs.declared.plan.InjectedMethod.{InjectedMethod}
use Rattle.cdi_plans.specs.declared.plan.ProductPlan.{ProductPlan}
use Rattle.cdi_plans.specs.declared.plan.Source.{Source}
use Rattle.cdi_plans.specs.declared.plan.Source.TheVariants as sources

-- a member is the producer of beans of this kind
abbrev pub is_producer_of : BeanKind → Member → Bool
is_producer_of (kinds.ProducerMethod name) (members.Producer p) = p.name == name
is_producer_of (kinds.ProducerField name) (members.ProducerField p) = p.name == name
is_producer_of kind m = false

-- the producer of beans of this kind that a class declares, with the class
abbrev pub producer_in : BeanKind → Class → Option (Class × Member)
producer_in kind c = option_map (λ m. (c, m)) (find (is_producer_of kind) c.members)

abbrev pub producer_of : List Class → ℕ → BeanKind → Option (Class × Member)
producer_of classes name kind = option_and_then (producer_in kind) (class_named classes name)

-- what a producer gives its instances by
abbrev pub source_of : ChainTables → Class × Member → Option Source
source_of t (c, members.Producer p) =
    Some (sources.ProducerMethod (injected_method t c.name c p.name p.body p.params))
source_of t (c, members.ProducerField p) = Some (sources.ProducerField p.field)
source_of t (c, m) = None

abbrev pub disposer_method : ChainTables → Class → Member → Option InjectedMethod
disposer_method t c (members.Disposer m) = Some (injected_method t c.name c m.name m.body m.params)
disposer_method t c m = None

-- those of these members of a class that are disposers and serve the producer, in their order
pub record AreDisposersOf (types : List TypeDeclaration) (qualifiers : List QualifierType)
    (t : ChainTables) (c : Class) (producer : Member) (ms : List Member)
    (disposers : List InjectedMethod) : Type 0 where
  pub serving : List Member
  pub serve : ListsThose (λ m. Disposes types qualifiers m producer) ms serving
  pub are : disposers ≡ filter_map (disposer_method t c) serving

-- the plan of a product by its producer, with the class that declares it
pub record IsPlanBy (t : PlanTables) (declared : Class × Member) (plan : ProductPlan) : Type 0 where
  pub declaring : plan.declaring ≡ declared.0.name
  pub source : source_of t.chains declared ≡ Some plan.source
  pub disposers :
      AreDisposersOf t.types t.qualifiers t.chains
      declared.0 declared.1 declared.0.members plan.disposers

pub record IsProductPlan (t : PlanTables) (name : ℕ) (kind : BeanKind) (plan : ProductPlan)
    : Type 0 where
  pub declared : Class × Member
  pub is : producer_of t.classes name kind ≡ Some declared
  pub by : IsPlanBy t declared plan
