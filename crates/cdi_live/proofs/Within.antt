-- What is needed is one of the beans of the list or of the enabled interceptors.
use Rattle.std.proofs.Common.{◌≡◌, ◌∙◌, ℕ, zero, suc, ◌+◌, ◌<◌, Bool, true, false, cond, List, [], ◌∷◌, length, get_or, map, filter, Some, None, refl, sym, ap, arith}
use Rattle.std.specs.Prelude.{Contains, slice_index}
use Rattle.std.specs.List.{enumerate_from}
use Rattle.std.proofs.lemmas.Option.{slice_get_within}
use Rattle.std.proofs.lemmas.List.FromFn.{length-enumerate_from, get_or-enumerate_from}
use Rattle.cdi_base.specs.Maps.{at}
use Rattle.cdi_beans.specs.declared.bean.Bean.{Bean}
use Rattle.cdi_beans.specs.declared.bean.EnabledInterceptor.{EnabledInterceptor}
use Rattle.cdi_plans.specs.Chains.{places_from}
use Rattle.cdi_resolve.proofs.Enabled.{enabled_at, disabled_at}
use Rattle.cdi_resolve.proofs.Eligible.{kept}
use Rattle.cdi_resolve.specs.Filters.{is_enabled, enabled_beans}

module _ (beans : List Bean) (flags : List Bool) where
  -- an enabled bean that is found at an index
  pub at_within : (i : ℕ) (b : Bean) → at (enabled_beans beans flags) i ≡ Some b → i < length beans
  at_within i b there = by (is_enabled flags i) refl
    where
      by : (f : Bool) → is_enabled flags i ≡ f → i < length beans
      by true on = slice_get_within beans i b (sym (enabled_at flags i on 0 i beans (omega arith)) ∙ there)
      by false off = absurd (let none : at (enabled_beans beans flags) i ≡ None = disabled_at flags i off 0 beans in cc)

  -- one that stands in the list of enabled ones
  pub listed_within : (p : ℕ × Bean) → Contains (enabled_beans beans flags) p → p.0 < length beans
  listed_within p listed =
      let there = (kept (λ q. is_enabled flags q.0) (enumerate_from 0 beans) p listed).stands in
      let pos = there.0 in
      let lt : pos < length beans = rw length-enumerate_from at there.1 in
      let is : (0 + pos, get_or beans pos p.1) ≡ p = sym (get_or-enumerate_from 0 beans pos p lt) ∙ there.2 in
      let same : 0 + pos ≡ p.0 = ap (λ q. q.0) is in
      omega arith

-- places of interceptors
pub place_within : (passes : EnabledInterceptor → Bool) (k : ℕ) (js : List EnabledInterceptor) (i : ℕ) → i < length (places_from passes k js) → slice_index (places_from passes k js) i < k + length js
place_within passes k [] i lt = absurd (omega arith)
place_within passes k (j ∷ js) i lt = by (passes j) i lt (place_within passes (k + 1) js)
  where
    rest : List (ℕ × EnabledInterceptor)
    rest = filter (λ p. passes p.1) (enumerate_from (k + 1) js)

    by : (b : Bool) (i : ℕ) → i < length (map (λ (p : ℕ × EnabledInterceptor). p.0) (cond b ((k, j) ∷ filter (λ p. passes p.1) (enumerate_from (k + 1) js)) (filter (λ p. passes p.1) (enumerate_from (k + 1) js))))
        → ((i : ℕ) → i < length (places_from passes (k + 1) js) → slice_index (places_from passes (k + 1) js) i < (k + 1) + length js)
        → slice_index (map (λ (p : ℕ × EnabledInterceptor). p.0) (cond b ((k, j) ∷ filter (λ p. passes p.1) (enumerate_from (k + 1) js)) (filter (λ p. passes p.1) (enumerate_from (k + 1) js)))) i < k + suc (length js)
    by false i lt more = let further = more i lt in omega arith
    by true zero lt more = omega arith
    by true (suc i) lt more = let further = more i (omega arith) in omega arith
