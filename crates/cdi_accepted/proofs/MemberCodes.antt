-- What of a member runs: its own body, with its own parameters.
use Rattle.std.proofs.Common.{ℕ, ◌≡◌, Bool, true, false, not, List, [], Some, refl, sym}
use Rattle.std.proofs.lemmas.Option.{same_Some}
use Rattle.cdi_body_check.specs.Sites.{member_body}
use Rattle.cdi_plans.specs.Chains.{ChainTables}
use Rattle.cdi_deployment.specs.Member.{member_name, member_params}
use Rattle.cdi_deployment.specs.declared.deployment.Class.{Class}
use Rattle.cdi_deployment.specs.declared.deployment.Member.{Member}
use Rattle.cdi_deployment.specs.declared.deployment.Member.TheVariants as members
use Rattle.cdi_deployment.specs.declared.deployment.Point.{Point}
use Rattle.cdi_deployment.specs.declared.deployment.ProducerField.{ProducerField}
use Rattle.cdi_planner.specs.Codes.{injected_method, member_code, post_construct, pre_destroy}
use Rattle.cdi_planner.specs.Products.{disposer_method, source_of}
use Rattle.cdi_planner.specs.Steps.{initialization}
use Rattle.cdi_plans.specs.declared.plan.Code.{Code}
use Rattle.cdi_plans.specs.declared.plan.InjectedMethod.{InjectedMethod}
use Rattle.cdi_plans.specs.declared.plan.Source.{Source}
use Rattle.cdi_plans.specs.declared.plan.Source.TheVariants as sources
use Rattle.cdi_plans.specs.declared.plan.Step.{Step}
use Rattle.cdi_plans.specs.declared.plan.Step.TheVariants as steps

-- a callback at the end of an instance's life
abbrev pub is_farewell : Member → Bool
is_farewell (members.PreDestroy m) = true
is_farewell _ = false

-- any other member
abbrev pub is_other : Member → Bool
is_other m = not (is_farewell m)

-- the code of a member that passes the test, and what is injected into it
pub record IsCodeOf (test : Member → Bool) (p : Class × Member) (code : Code) (points : List Point) : Type 0 where
  pub passes : test p.1 ≡ true
  pub body : ℕ
  pub has : member_body p.1 ≡ Some body
  pub is : code ≡ member_code p.0 (member_name p.1) body
  pub params : points ≡ member_params p.1

-- a callback at the end of an instance's life
pub of_pre_destroy : (p : Class × Member) (k : Code) → pre_destroy p ≡ Some k → IsCodeOf is_farewell p k []
of_pre_destroy (c, members.PreDestroy m) k e = record { passes = refl; body = m.body; has = refl; is = sym (same_Some (member_code c m.name m.body) k e); params = refl }
of_pre_destroy (c, members.Method m) k e = absurd cc
of_pre_destroy (c, members.Initializer m) k e = absurd cc
of_pre_destroy (c, members.PostConstruct m) k e = absurd cc
of_pre_destroy (c, members.Producer m) k e = absurd cc
of_pre_destroy (c, members.ProducerField m) k e = absurd cc
of_pre_destroy (c, members.Disposer m) k e = absurd cc
of_pre_destroy (c, members.Observer m) k e = absurd cc

-- a callback at its begin
pub of_post_construct : (p : Class × Member) (k : Code) → post_construct p ≡ Some k → IsCodeOf is_other p k []
of_post_construct (c, members.PostConstruct m) k e = record { passes = refl; body = m.body; has = refl; is = sym (same_Some (member_code c m.name m.body) k e); params = refl }
of_post_construct (c, members.Method m) k e = absurd cc
of_post_construct (c, members.Initializer m) k e = absurd cc
of_post_construct (c, members.PreDestroy m) k e = absurd cc
of_post_construct (c, members.Producer m) k e = absurd cc
of_post_construct (c, members.ProducerField m) k e = absurd cc
of_post_construct (c, members.Disposer m) k e = absurd cc
of_post_construct (c, members.Observer m) k e = absurd cc

-- a step that runs an initializer
pub record IsInitializer (p : Class × Member) (s : Step) : Type 0 where
  pub code : Code
  pub points : List Point
  pub is : s ≡ steps.Initialize code points
  pub of : IsCodeOf is_other p code points

-- an initializer's step is such a one
pub of_initialization : (p : Class × Member) (s : Step) → initialization p ≡ Some s → IsInitializer p s
of_initialization (c, members.Initializer m) s e =
    record {
      code = member_code c m.name m.body;
      points = m.params;
      is = sym (same_Some (steps.Initialize (member_code c m.name m.body) m.params) s e);
      of = record { passes = refl; body = m.body; has = refl; is = refl; params = refl };
    }
of_initialization (c, members.Method m) s e = absurd cc
of_initialization (c, members.PostConstruct m) s e = absurd cc
of_initialization (c, members.PreDestroy m) s e = absurd cc
of_initialization (c, members.Producer m) s e = absurd cc
of_initialization (c, members.ProducerField m) s e = absurd cc
of_initialization (c, members.Disposer m) s e = absurd cc
of_initialization (c, members.Observer m) s e = absurd cc

-- a producer method or a disposer, by the member of the declaring class
pub record IsMethodOf (t : ChainTables) (p : Class × Member) (k : InjectedMethod) : Type 0 where
  pub passes : is_other p.1 ≡ true
  pub body : ℕ
  pub has : member_body p.1 ≡ Some body
  pub is : k ≡ injected_method t p.0.name p.0 (member_name p.1) body (member_params p.1)

-- a disposer
pub of_disposer : (t : ChainTables) (c : Class) (m : Member) (k : InjectedMethod) → disposer_method t c m ≡ Some k → IsMethodOf t (c, m) k
of_disposer t c (members.Disposer m) k e = record { passes = refl; body = m.body; has = refl; is = sym (same_Some (injected_method t c.name c m.name m.body m.params) k e) }
of_disposer t c (members.Method m) k e = absurd cc
of_disposer t c (members.Initializer m) k e = absurd cc
of_disposer t c (members.PostConstruct m) k e = absurd cc
of_disposer t c (members.PreDestroy m) k e = absurd cc
of_disposer t c (members.Producer m) k e = absurd cc
of_disposer t c (members.ProducerField m) k e = absurd cc
of_disposer t c (members.Observer m) k e = absurd cc

-- what a producer gives its instances by
pub data IsSourceOf (t : ChainTables) (p : Class × Member) (s : Source) : Type 0 where
  method : (k : InjectedMethod) → s ≡ sources.ProducerMethod k → IsMethodOf t p k → IsSourceOf t p s
  field : (f : ProducerField) → s ≡ sources.ProducerField f.field → p.1 ≡ members.ProducerField f → IsSourceOf t p s

-- the source of a product is its producer method or its producer field
pub of_source : (t : ChainTables) (p : Class × Member) (s : Source) → source_of t p ≡ Some s → IsSourceOf t p s
of_source t (c, members.Producer m) s e =
    let own : InjectedMethod = injected_method t c.name c m.name m.body m.params in
    IsSourceOf.method own (sym (same_Some (sources.ProducerMethod own) s e)) (record { passes = refl; body = m.body; has = refl; is = refl })
of_source t (c, members.ProducerField m) s e = IsSourceOf.field m (sym (same_Some (sources.ProducerField m.field) s e)) refl
of_source t (c, members.Method m) s e = absurd cc
of_source t (c, members.Initializer m) s e = absurd cc
of_source t (c, members.PostConstruct m) s e = absurd cc
of_source t (c, members.PreDestroy m) s e = absurd cc
of_source t (c, members.Disposer m) s e = absurd cc
of_source t (c, members.Observer m) s e = absurd cc
