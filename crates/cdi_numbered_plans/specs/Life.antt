-- What is made of a plan: how an instance of a bean is made, and what runs where it is destroyed.
use Rattle.std.specs.Prelude.{List}
use Rattle.cdi_machine.specs.declared.member.Product.{Product}
use Rattle.cdi_machine.specs.declared.step.Lifecycle.{Lifecycle}
use Rattle.cdi_machine.specs.declared.step.Step.{Step}

-- of a managed bean: the steps by which an instance is created, but for those at which nothing runs, and the pre-destroy chain and
-- callbacks
pub record ManagedLife : Type 0 where
  pub steps : List Step
  pub pre_destroy : Lifecycle

-- of a product: where an instance comes from, and what disposes of it
pub data NumberedPlan : Type 0 where
  Managed : ManagedLife → NumberedPlan
  Produced : Product → NumberedPlan
