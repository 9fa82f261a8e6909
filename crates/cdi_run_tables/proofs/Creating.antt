-- The steps by which instances of interceptors are created are those of the machine.
use Rattle.std.proofs.Common.{ℕ, ◌≡◌, ◌∙◌, ◌^◌, ◌<◌, true, nat_le, List, [], ◌∷◌, Option, Some, None, Result, Ok, Err, length, map, refl, sym, ap, arith, subst, zero, suc}
use Rattle.std.specs.Prelude.{slice_get, option_map, option_and_then, IfOk, IfSome}
use Rattle.std.specs.declared.alloc.AllocError.{AllocError}
use Rattle.std.specs.List.{All, AllZip, list_all}
use Rattle.std.proofs.lemmas.Bool.{and_parts, ltb-true}
use Rattle.std.proofs.lemmas.List.{length-map}
use Rattle.std.proofs.lemmas.List.Elements.{All-nil}
use Rattle.cdi_bean_check.specs.Qualifiers.{full_uses}
use Rattle.cdi_beans.specs.declared.bean.EnabledInterceptor.{EnabledInterceptor}
use Rattle.cdi_deployment.specs.declared.deployment.InjectedField.{InjectedField}
use Rattle.cdi_deployment.specs.declared.deployment.Interceptor.{Interceptor}
use Rattle.cdi_event_tables.specs.Ids.{id_in}
use Rattle.cdi_machine.specs.Resolved.{IsResolvedStep}
use Rattle.cdi_machine.specs.declared.step.Step.{Step}
use Rattle.cdi_numbered_plans.specs.Machine.{machine_injection}
use Rattle.cdi_numbered_plans.specs.Plans.{AreInjectionsBy}
use Rattle.cdi_numbered_plans.specs.declared.numbering.Numbering.{Numbering}
use Rattle.cdi_quals.specs.declared.types.QualifierType.{QualifierType}
use Rattle.cdi_resolve.specs.Filters.{Candidates, enabled_of}
use Rattle.cdi_resolve.specs.Resolution.{resolution}
use Rattle.cdi_run_tables.proofs.NumberedParts.{numbers_of}
use Rattle.cdi_run_tables.specs.Index.{ArePlannedBy, AreStepsOf, IsNumberingOf}
use Rattle.cdi_run_tables.specs.Interceptors.{injecting, plan_of}
use Rattle.cdi_run_tables.specs.Machine.{injection, interceptor_at, machine_interceptor, machine_resolution}
use Rattle.cdi_run_tables.specs.Numbered as spec
use Rattle.cdi_run_tables.specs.Sizes.{has_few_fields}
use Rattle.cdi_run_tables.specs.Parts.{RunParts}

each_injected : (fields : List InjectedField) → map machine_injection fields ≡ map injecting (map injection fields)
each_injected [] = refl
each_injected (f ∷ fields) = ap (λ rest. machine_injection f ∷ rest) (each_injected fields)

-- what was made by what the deployment has
module _ (t : RunParts) (n : Numbering) (of : IsNumberingOf t n) (j : Interceptor) (made : List Step) (is : AreInjectionsBy n j.inject made) where
  abbrev few : Candidates → Type 0
  few c = nat_le (length c.beans) (2 ^ 32) ≡ true

  abbrev Resolved : List QualifierType → Candidates → Type 0
  Resolved types c = All (IsResolvedStep (λ asked. machine_resolution (resolution asked.type (full_uses types asked.qualifiers) (enabled_of c)))) made

  pub steps_made : AreStepsOf t (Some j) made
  steps_made =
      record {
        tells = λ h. is.tells (subst few (sym of.resolver) h) ∙ each_injected j.inject;
        resolved =
            subst (λ types. Resolved types t.tables.resolver) of.qualifiers (subst (Resolved n.qualifiers.now) of.resolver is.resolved);
      }

  pub steps_made_at : (o : Option Interceptor) → Some j ≡ o → AreStepsOf t o made
  steps_made_at o e = subst (λ x. AreStepsOf t x made) e steps_made

-- the same of what may be wanting for memory
pub steps_of_declared : (t : RunParts) (n : Numbering) → IsNumberingOf t n → (j : Interceptor) (o : Option Interceptor) → Some j ≡ o → (r : Result (List Step) AllocError) → IfOk r (AreInjectionsBy n j.inject) → IfOk r (AreStepsOf t o)
steps_of_declared t n of j o e (Ok made) is = steps_made_at t n of j made is o e
steps_of_declared t n of j o e (Err x) is = tt

-- where nothing is declared, there are none
pub no_steps : (t : RunParts) → AreStepsOf t None []
no_steps t = record { tells = λ few. refl; resolved = All-nil (IsResolvedStep (spec.machine_resolve t)) }

-- at a place of those that are enabled
module _ (t : RunParts) where
  abbrev Planned : Option EnabledInterceptor → Option (List Step) → Type 0
  Planned None None = Unit {0}
  Planned None (Some made) = ⊥
  Planned (Some j) None = ⊥
  Planned (Some j) (Some made) = ArePlannedBy t j made

  planned_at : (js : List EnabledInterceptor) (all : List (List Step)) → AllZip (ArePlannedBy t) js all → (n : ℕ) → Planned (slice_get js n) (slice_get all n)
  planned_at [] [] a n = tt
  planned_at [] (s ∷ ss) a n = absurd a
  planned_at (j ∷ js) [] a n = absurd a
  planned_at (j ∷ js) (s ∷ ss) a zero = a.0
  planned_at (j ∷ js) (s ∷ ss) a (suc n) = planned_at js ss a.1 n

  abbrev pub declared_in : Option EnabledInterceptor → Option Interceptor
  declared_in e = option_and_then (λ (j : EnabledInterceptor). slice_get t.deployment.interceptors j.index) e

  pub some_steps : (all : List (List Step)) → AllZip (ArePlannedBy t) t.tables.chains.interceptors all → (n : ℕ) (made : List Step) → Some made ≡ slice_get all n
      → AreStepsOf t (declared_in (slice_get t.tables.chains.interceptors n)) made
  some_steps all a n made e = by (slice_get t.tables.chains.interceptors n) (subst (Planned (slice_get t.tables.chains.interceptors n)) (sym e) (planned_at t.tables.chains.interceptors all a n))
    where
      by : (o : Option EnabledInterceptor) → Planned o (Some made) → AreStepsOf t (declared_in o) made
      by None h = absurd h
      by (Some j) h = h

  pub none_planned : (all : List (List Step)) → AllZip (ArePlannedBy t) t.tables.chains.interceptors all → (n : ℕ) → None ≡ slice_get all n
      → AreStepsOf t (declared_in (slice_get t.tables.chains.interceptors n)) []
  none_planned all a n e = by (slice_get t.tables.chains.interceptors n) (subst (Planned (slice_get t.tables.chains.interceptors n)) (sym e) (planned_at t.tables.chains.interceptors all a n))
    where
      by : (o : Option EnabledInterceptor) → Planned o None → AreStepsOf t (declared_in o) []
      by None h = no_steps t
      by (Some j) h = absurd h

  few_at : (js : List Interceptor) → list_all has_few_fields js ≡ true → (n : ℕ) → IfSome (slice_get js n) (λ j. length j.inject < 2 ^ 32)
  few_at [] all n = tt
  few_at (j ∷ js) all zero = ltb-true (length j.inject) (2 ^ 32) (and_parts (has_few_fields j) (list_all has_few_fields js) all).0
  few_at (j ∷ js) all (suc n) = few_at js (and_parts (has_few_fields j) (list_all has_few_fields js) all).1 n

  module _ (all : spec.is_numbered t ≡ true) where
    pub few_beans : spec.has_few_beans t ≡ true
    few_beans = (numbers_of t all).few

    -- what an interceptor has can be counted
    pub few_injections : (n : ℕ) → length (plan_of (interceptor_at t n)) < 2 ^ 32
    few_injections n = by (slice_get t.tables.chains.interceptors n)
      where
        of_declared : (o : Option Interceptor) → IfSome o (λ j. length j.inject < 2 ^ 32) → length (plan_of (option_map (machine_interceptor (id_in t.ids)) o)) < 2 ^ 32
        of_declared None h = omega arith
        of_declared (Some j) h =
            let same = length-map (map injection j.inject) injecting in
            let less = length-map j.inject injection in
            omega (arith, h, same, less)

        by : (o : Option EnabledInterceptor) → length (plan_of (option_map (machine_interceptor (id_in t.ids)) (declared_in o))) < 2 ^ 32
        by None = omega arith
        by (Some j) = of_declared (slice_get t.deployment.interceptors j.index) (few_at t.deployment.interceptors (numbers_of t all).fields j.index)
