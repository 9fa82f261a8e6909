-- What is found as the producer of a product is a producer.
use Rattle.std.proofs.Common.{◌≡◌, ℕ, true, List, Option, Some, None, refl, sym}
use Rattle.std.specs.Prelude.{IsTrue, option_map, option_and_then}
use Rattle.std.specs.List.{find}
use Rattle.std.proofs.lemmas.Bool.{true≢false}
use Rattle.cdi_bean_rules.specs.Limits.{is_producer}
use Rattle.cdi_beans.specs.declared.bean.BeanKind.{BeanKind}
use Rattle.cdi_beans.specs.declared.bean.BeanKind.TheVariants as kinds
use Rattle.cdi_deployment.specs.declared.deployment.Class.{Class}
use Rattle.cdi_deployment.specs.declared.deployment.Member.{Member}
use Rattle.cdi_deployment.specs.declared.deployment.Member.TheVariants as members
use Rattle.cdi_types.specs.Line.{class_named}
use Rattle.cdi_planner.specs.Products.{is_producer_of, producer_in, producer_of}
use Rattle.cdi_planner.proofs.Names.{passes}

is_one : (kind : BeanKind) (m : Member) → is_producer_of kind m ≡ true → IsTrue (is_producer m)
is_one kinds.Managed m e = absurd (true≢false (sym e))
is_one (kinds.ProducerMethod name) (members.Producer p) e = refl
is_one (kinds.ProducerMethod name) _ e = absurd (true≢false (sym e))
is_one (kinds.ProducerField name) (members.ProducerField p) e = refl
is_one (kinds.ProducerField name) _ e = absurd (true≢false (sym e))

module _ (kind : BeanKind) where
  pair : (c : Class) (o : Option Member) (p : Class × Member) → option_map (λ m. (c, m)) o ≡ Some p → o ≡ Some p.1
  pair c None p e = absurd cc
  pair c (Some m) p e = cc

  found_in : (c : Class) (p : Class × Member) → producer_in kind c ≡ Some p → IsTrue (is_producer p.1)
  found_in c p e = is_one kind p.1 (passes (is_producer_of kind) c.members p.1 (pair c (find (is_producer_of kind) c.members) p e))

  pub found : (classes : List Class) (name : ℕ) (p : Class × Member) → producer_of classes name kind ≡ Some p → IsTrue (is_producer p.1)
  found classes name p e = by (class_named classes name) e
    where
      by : (o : Option Class) → option_and_then (producer_in kind) o ≡ Some p → IsTrue (is_producer p.1)
      by None h = absurd cc
      by (Some c) h = found_in c p h
