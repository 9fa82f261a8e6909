use Rattle.std.proofs.Common.{◌≡◌, ◌++◌, map, take}
use Rattle.cdi_live.specs.declared.node.Node.TheVariants.{Interceptor}
use Rattle.cdi_live.proofs.deployment_tables.DeploymentTables.add_interceptors.Given as goal

abbrev pub invariant-loop-place : goal.invariant-loop-place
invariant-loop-place l = l.needs ≡ l.initial.needs ++ map (λ k. Interceptor k) (take l.place-index l.place-items)
