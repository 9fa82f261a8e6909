-- What a class declares that runs in the lives of instances, and what it leaves of what its direct superclass has (Jakarta CDI 4.0,
-- Inheritance of member-level metadata).
use Rattle.std.specs.Prelude.{ℕ, ◌≡◌, Bool, true, not, List, [], ◌∷◌}
use Rattle.std.specs.List.{filter_map}
use Rattle.cdi_base.specs.declared.place.Place.{Place}
use Rattle.cdi_base.specs.declared.place.Place.TheVariants as places
use Rattle.cdi_deployment.specs.declared.deployment.Class.{Class}
use Rattle.cdi_planner.specs.Codes.{business_method, post_construct, pre_destroy}
use Rattle.cdi_planner.specs.Steps.{injections}
use Rattle.cdi_planner.specs.Tables.{PlanTables}
use Rattle.cdi_planner.specs.declared.own_parts.OwnParts.{OwnParts}
use Rattle.cdi_plans.specs.Chains.{ChainTables}
use Rattle.cdi_plans.specs.declared.plan.BusinessMethod.{BusinessMethod}
use Rattle.cdi_plans.specs.declared.plan.Code.{Code}
use Rattle.cdi_plans.specs.declared.plan.Step.{Step}
use Rattle.cdi_plans.specs.declared.plan.Step.TheVariants as steps
use Rattle.cdi_types.specs.Line.{IsLineOf}
use Rattle.cdi_types.specs.Members.{declares, members_of}

-- the class declares no member of the name of the one that stands here
abbrev pub leaves_place : Class → Place → Bool
leaves_place c (places.Member class name) = not (declares name c)
leaves_place c place = true

-- a callback
abbrev pub leaves_code : Class → Code → Bool
leaves_code c code = leaves_place c code.place

-- an injected field, or an initializer
abbrev pub leaves_step : Class → Step → Bool
leaves_step c (steps.Initialize code points) = leaves_code c code
leaves_step c step = true

-- what a class declares, with the chains of its bean
abbrev pub own_parts : ChainTables → Class → OwnParts
own_parts t c =
    record {
      fields = c.fields;
      injections = injections (c ∷ []);
      post_constructs = filter_map post_construct (members_of (c ∷ []));
      pre_destroys = filter_map pre_destroy (members_of (c ∷ []));
      methods = filter_map (business_method t c.name) (members_of (c ∷ []));
    }

-- the business methods of a bean
pub record AreMethodsOf (t : PlanTables) (bean : ℕ) (methods : List BusinessMethod) : Type 0 where
  pub line : List Class
  pub is_line : IsLineOf t.types t.classes bean line
  pub are : methods ≡ filter_map (business_method t.chains bean) (members_of line)
