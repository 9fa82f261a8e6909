use Rattle.std.proofs.Common.{sym, subst}
use Rattle.std.specs.Prelude.{IsTrue}
use Rattle.cdi_bean_rules.specs.Limits.{is_producer}
use Rattle.cdi_deployment.specs.declared.deployment.Class.{Class}
use Rattle.cdi_deployment.specs.declared.deployment.Member.{Member}
use Rattle.cdi_planner.proofs.Producers.{found}
use Rattle.cdi_planner.proofs.planner.Planner.product.Goals as goal

pub produced-requires : goal.produced-requires
produced-requires c =
    let P : Class × Member → Type 0 = λ p. IsTrue (is_producer p.1) in
    subst P (sym c.producer-in-Some.view_is) (found c.args.kind c.args.self.now.classes c.args.class c.in-Some.producer (sym c.in-Some.ensures))
