-- The enabled interceptors in their order (Jakarta Interceptors 2.1, Enabling Interceptors, Interceptor Ordering).
use Rattle.std.specs.Prelude.{ℕ, ◌≡◌, Bool, not, ◌==◌, ◌&&◌, ◌++◌, List, filter, Option, is_some}
use Rattle.std.specs.List.{filter_map, find, enumerate_from, AllZip}
use Rattle.std.specs.Option.{option_cmp}
use Rattle.std.specs.Ordering.{int_cmp, nat_cmp, on, then_cmp}
use Rattle.std.specs.declared.cmp.Ordering.{Ordering}
use Rattle.cdi_deployment.specs.declared.deployment.Deployment.{Deployment}
use Rattle.cdi_deployment.specs.declared.deployment.Interceptor.{Interceptor}
use Rattle.cdi_quals.specs.OrderedSet.{IsOrderedSet}
use Rattle.cdi_quals.specs.declared.types.QualifierType.{QualifierType}
use Rattle.cdi_bean_check.specs.Qualifiers.{IsSetOf}
use Rattle.cdi_beans.specs.declared.bean.EnabledInterceptor.{EnabledInterceptor}

-- an interceptor with its index among those of the deployment
abbrev pub Indexed : Type 0
Indexed = ℕ × Interceptor

abbrev pub has_priority : Indexed → Bool
has_priority (index, j) = is_some j.priority

-- by priority, and of equal priority in the order of the deployment
abbrev pub compare_priorities : Indexed → Indexed → Ordering
compare_priorities = then_cmp (on (λ p. p.1.priority) (option_cmp int_cmp)) (on (λ p. p.0) nat_cmp)

-- the interceptor that the list of the enabled ones names; a priority wins over the list
abbrev pub listed : List Indexed → ℕ → Option Indexed
listed interceptors name = find (λ p. (p.1.name == name) && not (has_priority p)) interceptors

-- those with a priority, ascending, and then those that are listed, in the order of the list
pub record AreEnabled (d : Deployment) (enabled : List Indexed) : Type 0 where
  pub by_priority : List Indexed
  pub in_order :
      IsOrderedSet compare_priorities (filter has_priority (enumerate_from 0 d.interceptors))
      by_priority
  pub are : enabled ≡ by_priority ++ filter_map (listed (enumerate_from 0 d.interceptors)) d.order

pub record IsEnabledInterceptor (names : List (List ℕ)) (bindings : List QualifierType)
    (p : Indexed) (j : EnabledInterceptor) : Type 0 where
  pub index : j.index ≡ p.0
  pub name : j.name ≡ p.1.name
  pub bound : IsSetOf names bindings p.1.bindings j.bindings
  pub invoke : j.invoke ≡ p.1.invoke
  pub construct : j.construct ≡ p.1.construct
  pub post : j.post ≡ p.1.post
  pub pre : j.pre ≡ p.1.pre

pub record AreInterceptorsOf (d : Deployment) (bindings : List QualifierType)
    (interceptors : List EnabledInterceptor) : Type 0 where
  pub enabled : List Indexed
  pub are_enabled : AreEnabled d enabled
  pub each : AllZip (IsEnabledInterceptor d.names bindings) enabled interceptors
