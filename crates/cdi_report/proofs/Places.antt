-- The places of interceptors in chains are numbers of 32 bits, since few interceptors are enabled.
use Rattle.std.proofs.Common.{ℕ, ◌≡◌, ◌+◌, ◌≤◌, ◌^◌, Bool, true, false, cond, List, [], ◌∷◌, filter, map, length, Option, Some, None, refl, arith}
use Rattle.std.proofs.lemmas.Bool.{and_from, lt-ltb}
use Rattle.std.proofs.lemmas.List.{length-map}
use Rattle.std.proofs.lemmas.List.FromFn.{length-enumerate_from}
use Rattle.std.specs.List.{enumerate_from}
use Rattle.cdi_base.specs.declared.place.InterceptorMethod.{InterceptorMethod}
use Rattle.cdi_base.specs.declared.place.InterceptorMethod.TheVariants as methods
use Rattle.cdi_beans.specs.declared.bean.Bean.{Bean}
use Rattle.cdi_beans.specs.declared.bean.BeanMember.{BeanMember}
use Rattle.cdi_beans.specs.declared.bean.EnabledInterceptor.{EnabledInterceptor}
use Rattle.cdi_plans.specs.Bindings.{bindings_had}
use Rattle.cdi_plans.specs.Chains.{ChainTables, chain_with, class_level, intercepts, interceptors_of, invoke_chain, is_bound, life_chain, member_level, places_from}
use Rattle.cdi_numbered_plans.specs.Numbers.{are_numbers, is_number}
use Rattle.cdi_quals.specs.declared.qualifier.Qualifier.{Qualifier}
use Rattle.cdi_report.proofs.Lengths.{filter_no_longer}

module _ (passes : EnabledInterceptor → Bool) where
  -- the places of interceptors that stand at such numbers are such numbers
  places_are_numbers : (first : ℕ) (js : List EnabledInterceptor) → first + length js ≤ 2 ^ 32
      → are_numbers (places_from passes first js) ≡ true
  places_are_numbers first [] few = refl
  places_are_numbers first (j ∷ js) few =
      by (passes j) (places_are_numbers (first + 1) js (omega (arith, few)))
    where
      others : List (ℕ × EnabledInterceptor)
      others = filter (λ p. passes p.1) (enumerate_from (first + 1) js)

      by : (b : Bool) → are_numbers (places_from passes (first + 1) js) ≡ true
          → are_numbers (map (λ (p : ℕ × EnabledInterceptor). p.0) (cond b ((first, j) ∷ others) others)) ≡ true
      by true more =
          and_from (is_number first) (are_numbers (places_from passes (first + 1) js))
          (lt-ltb first (2 ^ 32) (omega (arith, few))) more
      by false more = more

  -- there are no more of them than interceptors
  places_no_longer : (first : ℕ) (js : List EnabledInterceptor)
      → length (places_from passes first js) ≤ length js
  places_no_longer first js =
      let all : List (ℕ × EnabledInterceptor) = enumerate_from first js in
      let kept : List (ℕ × EnabledInterceptor) = filter (λ p. passes p.1) all in
      omega (
        arith,
        length-map kept (λ (p : ℕ × EnabledInterceptor). p.0),
        filter_no_longer (λ (p : ℕ × EnabledInterceptor). passes p.1) all,
        length-enumerate_from first js,
      )

module _ (t : ChainTables) (few : length t.interceptors ≤ 2048) where
  -- the places of those that pass any test
  are_numbered : (passes : EnabledInterceptor → Bool)
      → are_numbers (places_from passes 0 t.interceptors) ≡ true
  are_numbered passes = places_are_numbers passes 0 t.interceptors (omega (arith, few))

  -- those of a lifecycle chain
  pub life_numbered : (bean : ℕ) (method : InterceptorMethod)
      → are_numbers (life_chain t bean method) ≡ true
  life_numbered bean method = are_numbered (is_bound method (class_level t bean))

  -- those of the chain of a member
  pub invoke_numbered : (bean : ℕ) (m : BeanMember) → are_numbers (invoke_chain t bean m) ≡ true
  invoke_numbered bean m = by (member_level t m)
    where
      by : (own : Option (List Qualifier))
          → are_numbers (chain_with methods.AroundInvoke own (class_level t bean) t.interceptors) ≡ true
      by None = refl
      by (Some own) =
          are_numbered (is_bound methods.AroundInvoke (bindings_had own (class_level t bean)))

  -- those of all interceptors of a bean
  pub instances_numbered : (b : Bean) → are_numbers (interceptors_of t b) ≡ true
  instances_numbered b = are_numbered (intercepts t b)

  -- and there are few of these
  pub few_instances : (b : Bean) → length (interceptors_of t b) ≤ 2048
  few_instances b = omega (arith, few, places_no_longer (intercepts t b) 0 t.interceptors)
