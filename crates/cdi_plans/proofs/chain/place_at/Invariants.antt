use Rattle.std.proofs.Common.{◌≡◌, drop}
use Rattle.std.specs.Prelude.{slice_get}
use Rattle.cdi_plans.specs.Bindings.{bindings_had}
use Rattle.cdi_plans.specs.Chains.{is_bound, places_from, chain_of}
use Rattle.cdi_plans.proofs.chain.place_at.Given as goal

abbrev pub invariant-loop-place : goal.invariant-loop-place
invariant-loop-place l =
    let had = bindings_had l.own l.of_class in
    slice_get (places_from (is_bound l.method had) l.place (drop l.place l.interceptors)) l.left ≡ slice_get (chain_of l.method had l.interceptors) l.index
