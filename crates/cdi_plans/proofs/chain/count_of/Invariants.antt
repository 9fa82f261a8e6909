use Rattle.std.proofs.Common.{◌≡◌, ◌+◌, ◌≤◌, length, drop}
use Rattle.cdi_plans.specs.Bindings.{bindings_had}
use Rattle.cdi_plans.specs.Chains.{is_bound, places_from, chain_of}
use Rattle.cdi_plans.proofs.chain.count_of.Given as goal

abbrev pub invariant-loop-interceptor : goal.invariant-loop-interceptor
invariant-loop-interceptor l =
    let had = bindings_had l.own l.of_class in
    record {
      few : l.count ≤ l.interceptor-index;
      counted : l.count + length (places_from (is_bound l.method had) l.interceptor-index (drop l.interceptor-index l.interceptors)) ≡ length (chain_of l.method had l.interceptors);
    }
