-- The beans that are enabled by the recursion are the free ones.
use Rattle.std.proofs.Common.{◌≡◌, ◌∙◌, ◌↔◌, ℕ, ◌<◌, ◌≤◌, zero, suc, Bool, true, false, List, length, IsTrue, refl, sym, ap, subst, ◌⊎◌, inl, inr, arith}
use Rattle.std.proofs.lemmas.Bool.{cases_Bool, cases_eq, cases_lt, true≢false}
use Rattle.std.proofs.lemmas.Option.{slice_get_past}
use Rattle.cdi_paths.proofs.Paths.{proper_join, proper_decided}
use Rattle.cdi_enable.specs.declared.managed_bean.ManagedBean.{ManagedBean}
use Rattle.cdi_enable.specs.Enabled.{graph_of, is_candidate, may_be_enabled, Specializes, IsForest, Enabled}
use Rattle.cdi_enable.specs.Free.{flag, IsFree, IsEnabledSetOf}

pub once : {beans : List ManagedBean} (b : ℕ) (r s : Bool) → Enabled beans b r → Enabled beans b s → r ≡ s
once b true true _ _ = refl
once b false false _ _ = refl
once b true false (Enabled.enabled a f) (Enabled.not_selected n) = absurd (true≢false (sym a ∙ n))
once b true false (Enabled.enabled a f) (Enabled.specialized {x = x} s e) = absurd (true≢false (sym (once x false true (f x s) e)))
once b false true (Enabled.not_selected n) (Enabled.enabled a f) = absurd (true≢false (sym a ∙ n))
once b false true (Enabled.specialized {x = x} s e) (Enabled.enabled a f) = absurd (true≢false (once x true false e (f x s)))

-- there is no bean past the last
pub not_past : (beans : List ManagedBean) (x : ℕ) → length beans ≤ x → may_be_enabled beans x ≡ false
not_past beans x le = ap is_candidate (slice_get_past beans x le)

not_true : (b : Bool) → (b ≡ true → ⊥) → b ≡ false
not_true true no_way = absurd (no_way refl)
not_true false no_way = refl

module _ (beans : List ManagedBean) where
  -- an may_be_enabled bean that specializes another
  abbrev Over : ℕ → ℕ → Type 0
  Over x b = (may_be_enabled beans x ≡ true) × Specializes beans x b

  over_decided : IsForest beans → (x b : ℕ) → Over x b ⊎ (Over x b → ⊥)
  over_decided forest x b =
      elim (cases_Bool (may_be_enabled beans x)) [
        | inl may_be_one ↦ (elim (proper_decided (graph_of beans) forest.known x b) [ inl path ↦ inl (may_be_one, path) | inr none ↦ inr (λ o. none o.1) ])
        | inr not_it ↦ inr (λ o. true≢false (sym o.0 ∙ not_it))
      ]

  -- of the may_be_enabled beans that specialize a bean, one that none of the first k specializes
  topmost : IsForest beans → (b x k : ℕ) → Over x b → (y : ℕ) × Over y b × ((z : ℕ) → z < k → Over z y → ⊥)
  topmost forest b x zero o = (x, o, λ z lt _. absurd (omega arith))
  topmost forest b x (suc k) o =
      let t = topmost forest b x k o in
      elim (over_decided forest k t.0) [
        | inl above ↦ (
          k,
          (above.0, proper_join (graph_of beans) k t.0 b above.1 t.1.1),
          λ z lt up. elim (cases_eq z k) [
            | inl same ↦ forest.acyclic k (let P : ℕ → Type 0 = λ m. Specializes beans m k in subst P same up.1)
            | inr other ↦ t.2 z (omega arith) (up.0, proper_join (graph_of beans) z k t.0 up.1 above.1)
          ],
        )
        | inr none ↦ (t.0, t.1, λ z lt up. elim (cases_eq z k) [ inl same ↦ none (let P : ℕ → Type 0 = λ m. Over m t.0 in subst P same up) | inr other ↦ t.2 z (omega arith) up ])
      ]

  pub enabled_free : (b : ℕ) → IsFree beans b → Enabled beans b true
  enabled_free b free = Enabled.enabled free.0 (λ x s. Enabled.not_selected (not_true (may_be_enabled beans x) (λ a. free.1 x a s)))

  -- where an may_be_enabled bean specializes a bean, an enabled one does
  pub enabled_over : IsForest beans → (b x : ℕ) → Over x b → (y : ℕ) × Specializes beans y b × Enabled beans y true
  enabled_over forest b x o =
      let t = topmost forest b x (length beans) o in
      let last : (z : ℕ) → may_be_enabled beans z ≡ true → Specializes beans z t.0 → ⊥ = λ z a s. elim (cases_lt z (length beans)) [ inl lt ↦ t.2 z lt (a, s) | inr le ↦ true≢false (sym a ∙ not_past beans z le) ] in
      (t.0, t.1.1, enabled_free t.0 (t.1.0, last))

  -- some bean below n is may_be_enabled and specializes a bean, or none
  any_over : IsForest beans → (b n : ℕ) → ((x : ℕ) × Over x b) ⊎ ((x : ℕ) → x < n → Over x b → ⊥)
  any_over forest b zero = inr (λ x lt _. absurd (omega arith))
  any_over forest b (suc n) =
      elim (over_decided forest n b) [
        | inl here ↦ inl (n, here)
        | inr none ↦ (
            elim (any_over forest b n) [
              | inl some ↦ inl some
              | inr before ↦ inr (λ x lt o. elim (cases_eq x n) [ inl same ↦ none (let P : ℕ → Type 0 = λ m. Over m b in subst P same o) | inr other ↦ before x (omega arith) o ])
            ]
            )
      ]

  -- an enabled bean is free
  pub free_enabled : IsForest beans → (b : ℕ) → Enabled beans b true → IsFree beans b
  free_enabled forest b (Enabled.enabled a f) = (a, λ x may s. (let y = enabled_over forest b x (may, s) in true≢false (once y.0 true false y.2 (f y.0 y.1))))

  -- a bean that is not free is not enabled
  pub disabled_unfree : IsForest beans → (b : ℕ) → (IsFree beans b → ⊥) → Enabled beans b false
  disabled_unfree forest b unfree =
      elim (cases_Bool (may_be_enabled beans b)) [
        | inl may_be_one ↦ (
            elim (any_over forest b (length beans)) [
              | inl some ↦ (let y = enabled_over forest b some.0 some.1 in Enabled.specialized y.1 y.2)
              | inr none ↦ absurd (unfree (may_be_one, λ x a s. elim (cases_lt x (length beans)) [ inl lt ↦ none x lt (a, s) | inr le ↦ true≢false (sym a ∙ not_past beans x le) ]))
            ]
            )
        | inr not_it ↦ Enabled.not_selected not_it
      ]

  -- what a flag says
  pub enabled_flag : {graph : List (List ℕ)} {flags : List Bool} → IsEnabledSetOf beans graph flags → (b : ℕ) → Enabled beans b (flag flags b)
  enabled_flag {graph} {flags} ok b = by (flag flags b) (ok.flagged b)
    where
      by : (r : Bool) → IsTrue r ↔ IsFree beans b → Enabled beans b r
      by true told = enabled_free b (told.0 refl)
      by false told = disabled_unfree ok.forest b (λ free. true≢false (sym (told.1 free)))

  pub enabled_within : (b : ℕ) → Enabled beans b true → b < length beans
  enabled_within b (Enabled.enabled a f) = elim (cases_lt b (length beans)) [ inl lt ↦ lt | inr le ↦ absurd (true≢false (sym a ∙ not_past beans b le)) ]
