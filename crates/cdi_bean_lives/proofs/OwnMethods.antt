-- The methods that a class is given, by their names.
use Rattle.std.proofs.Common.{ℕ, ◌≡◌, ◌∙◌, Bool, true, false, List, [], ◌∷◌, Option, option_map, sym, ap}
use Rattle.std.proofs.lemmas.Bool.{true≢false}
use Rattle.cdi_base.specs.Maps.{at}
use Rattle.cdi_bean_lives.specs.Lives.{AreAllMethods, given_methods, methods_in}
use Rattle.cdi_deployment.specs.declared.deployment.Class.{Class}
use Rattle.cdi_event_tables.specs.Ids.{id_in}
use Rattle.cdi_event_tables.specs.declared.ids.BodyIds.{BodyIds}
use Rattle.cdi_machine.specs.declared.member.Method.{Method}
use Rattle.cdi_method_maps.specs.NamedMethods.{method_named}
use Rattle.cdi_method_maps.specs.declared.named_method.NamedMethod.{NamedMethod}
use Rattle.cdi_numbered_plans.specs.Machine.{machine_methods}
use Rattle.cdi_numbered_plans.specs.Methods.{method_by}
use Rattle.cdi_numbered_plans.specs.Numbered.{bodies_by}
use Rattle.cdi_numbered_plans.specs.declared.numbering.Numbering.{Numbering}
use Rattle.cdi_planner.specs.Inherited.{AreMethodsOf}
use Rattle.cdi_planner.specs.Tables.{PlanTables}
use Rattle.cdi_plans.specs.declared.plan.BusinessMethod.{BusinessMethod}

-- one of a name, as the machine is told of it
abbrev told_in : (ℕ → Option ℕ) → List BusinessMethod → ℕ → Option Method
told_in ids ms name = option_map method_by (at (machine_methods ids ms) name)

-- its own, or all that its bean has
pub record AreGivenMethods (t : PlanTables) (n : Numbering) (class : Class) (inherits_methods : Bool) (named : List NamedMethod) : Type 0 where
  pub all : List BusinessMethod
  pub are_all : inherits_methods ≡ false → AreMethodsOf t class.name all
  pub methods : (name : ℕ) → method_named name named ≡ told_in (bodies_by n) (given_methods t n inherits_methods class all) name

module _ (t : PlanTables) (n : Numbering) (class : Class) (inherits_methods : Bool) (ids : BodyIds) (same : ids ≡ n.ids.now) (given named : List NamedMethod) (is : given ≡ named) where
  pub of_own : inherits_methods ≡ true → (ms : List BusinessMethod) → ms ≡ methods_in t n class.name (class ∷ [])
      → ((name : ℕ) → method_named name named ≡ told_in (id_in ids) ms name) → AreGivenMethods t n class inherits_methods given
  of_own inherits ms own told = record {
    all = [];
    are_all = λ not. absurd (true≢false (sym inherits ∙ not));
    methods = λ name.
        ap (method_named name) is ∙ told name
        ∙ ap (λ (i : BodyIds). told_in (id_in i) ms name) same
        ∙ ap (λ own. told_in (bodies_by n) own name) own
        ∙ ap (λ i. told_in (bodies_by n) (given_methods t n i class []) name) (sym inherits);
  }

  pub of_all : inherits_methods ≡ false → AreAllMethods t (id_in ids) class.name named → AreGivenMethods t n class inherits_methods given
  of_all not all = record {
    all = all.all;
    are_all = λ e. all.are;
    methods = λ name.
        ap (method_named name) is ∙ all.named_so name
        ∙ ap (λ (i : BodyIds). told_in (id_in i) all.all name) same
        ∙ ap (λ i. told_in (bodies_by n) (given_methods t n i class all.all) name) (sym not);
  }
