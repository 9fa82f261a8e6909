use Rattle.std.proofs.Common.{◌≡◌, ◌++◌, drop}
use Rattle.cdi_plans.specs.Bindings.{bindings_had}
use Rattle.cdi_plans.specs.Chains.{is_bound, places_from, chain_of}
use Rattle.cdi_plans.proofs.chain.places_in.Given as goal

abbrev pub invariant-loop-place : goal.invariant-loop-place
invariant-loop-place l =
    let had = bindings_had l.own l.of_class in
    l.places ++ places_from (is_bound l.method had) l.place (drop l.place l.interceptors) ≡ chain_of l.method had l.interceptors
