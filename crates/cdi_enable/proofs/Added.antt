-- Beans behind the ones that there are.
use Rattle.std.proofs.Common.{◌≡◌, ◌∙◌, ◌↔◌, ℕ, ◌<◌, ◌≤◌, Bool, true, false, List, [], ◌++◌, length, map, get_or, option_to_list, Some, None, sym, ap, subst, inl, inr, true≢false, arith, length-append}
use Rattle.std.proofs.lemmas.Bool.{cases_lt}
use Rattle.std.proofs.lemmas.List.{get_or_append_left, get_or_past, map-append, length-map}
use Rattle.std.proofs.lemmas.Option.{slice_get-get_or}
use Rattle.std.specs.List.{Contains}
use Rattle.cdi_paths.specs.Graph.{targets_of, Path}
use Rattle.cdi_paths.proofs.Paths.{edge_within}
use Rattle.cdi_types.proofs.Listed.{not_in_none}
use Rattle.cdi_enable.specs.declared.managed_bean.ManagedBean.{ManagedBean}
use Rattle.cdi_enable.specs.Enabled.{graph_of, is_candidate, may_be_enabled, Specializes, IsForest, Enabled}
use Rattle.cdi_enable.specs.Free.{IsFree}
use Rattle.cdi_enable.proofs.Free.{once, enabled_free, disabled_unfree, free_enabled, enabled_over}

module _ (beans more : List ManagedBean) (forest : IsForest beans) (larger : IsForest (beans ++ more)) where
  -- edges from the beans that there were
  same_targets : (x : ℕ) → x < length beans → targets_of (graph_of (beans ++ more)) x ≡ targets_of (graph_of beans) x
  same_targets x lt =
      let row : ManagedBean → List ℕ = λ b. option_to_list b.specializes in
      ap (λ g. targets_of g x) (map-append row beans more) ∙ get_or_append_left (map row beans) (map row more) [] x (omega (arith, length-map beans row))

  stays : (x m : ℕ) → Contains (targets_of (graph_of beans) x) m → m < length beans
  stays x m e =
      let row : ManagedBean → List ℕ = λ b. option_to_list b.specializes in
      omega (arith, edge_within (graph_of beans) forest.known x m e, length-map beans row)

  narrowed : {x b : ℕ} → x < length beans → Path (graph_of (beans ++ more)) x b → Path (graph_of beans) x b
  narrowed lt Path.here = Path.here
  narrowed {x} lt (Path.step {b = m} e p) =
      let P : List ℕ → Type 0 = λ ts. Contains ts m in
      let e' : Contains (targets_of (graph_of beans) x) m = subst P (same_targets x lt) e in
      Path.step e' (narrowed (stays x m e') p)

  widened : {x b : ℕ} → x < length beans → Path (graph_of beans) x b → Path (graph_of (beans ++ more)) x b
  widened lt Path.here = Path.here
  widened {x} lt (Path.step {b = m} e p) =
      let P : List ℕ → Type 0 = λ ts. Contains ts m in
      Path.step (subst P (sym (same_targets x lt)) e) (widened (stays x m e) p)

  specializes_before : (x b : ℕ) → x < length beans → Specializes (beans ++ more) x b → Specializes beans x b
  specializes_before x b lt s =
      let P : List ℕ → Type 0 = λ ts. Contains ts s.0 in
      let e : Contains (targets_of (graph_of beans) x) s.0 = subst P (same_targets x lt) s.1 in
      (s.0, e, narrowed (stays x s.0 e) s.2)

  specializes_still : (x b : ℕ) → x < length beans → Specializes beans x b → Specializes (beans ++ more) x b
  specializes_still x b lt s =
      let P : List ℕ → Type 0 = λ ts. Contains ts s.0 in
      (s.0, subst P (sym (same_targets x lt)) s.1, widened (stays x s.0 s.1) s.2)

  -- a bean that there was may be enabled as before
  may_as_before : (x : ℕ) → x < length beans → may_be_enabled (beans ++ more) x ≡ may_be_enabled beans x
  may_as_before x lt =
      let d : ManagedBean = get_or beans x (record { specializes = None; alternative = false; selected = false }) in
      ap is_candidate (slice_get-get_or (beans ++ more) x d (omega (arith, length-append beans more)) ∙ sym (slice_get-get_or beans x d lt ∙ ap Some (sym (get_or_append_left beans more d x lt))))

  -- a bean that specializes one is there
  specializes_within : (x b : ℕ) → Specializes beans x b → x < length beans
  specializes_within x b s =
      elim (cases_lt x (length beans)) [
        | inl lt ↦ lt
        | inr le ↦ (
            let row : ManagedBean → List ℕ = λ b. option_to_list b.specializes in
            absurd (not_in_none (targets_of (graph_of beans) x) s.0 (get_or_past (map row beans) x [] (omega (arith, le, length-map beans row))) s.1)
            )
      ]

  narrowed_free : (b : ℕ) → b < length beans → IsFree (beans ++ more) b → IsFree beans b
  narrowed_free b lt free = (
    sym (may_as_before b lt) ∙ free.0,
    λ x may s. (let within = specializes_within x b s in free.1 x (may_as_before x within ∙ may) (specializes_still x b within s)),
  )

  module _ (b : ℕ) (lt : b < length beans) (none : (x : ℕ) → length beans ≤ x → Specializes (beans ++ more) x b → Enabled (beans ++ more) x true → ⊥) where
    widened_free : IsFree beans b → IsFree (beans ++ more) b
    widened_free free = (may_as_before b lt ∙ free.0, λ x may s. nothing_over (enabled_over (beans ++ more) larger b x (may, s)))
      where
        nothing_over : (y : ℕ) × Specializes (beans ++ more) y b × Enabled (beans ++ more) y true → ⊥
        nothing_over (y, s, e) =
            elim (cases_lt y (length beans)) [
              | inl before ↦ free.1 y (sym (may_as_before y before) ∙ (free_enabled (beans ++ more) larger y e).0) (specializes_before y b before s)
              | inr added ↦ none y added s e
            ]

    pub as_before : (r : Bool) → Enabled beans b r ↔ Enabled (beans ++ more) b r
    as_before true = (
      λ e. enabled_free (beans ++ more) b (widened_free (free_enabled beans forest b e)),
      λ e. enabled_free beans b (narrowed_free b lt (free_enabled (beans ++ more) larger b e)),
    )
    as_before false = (
      λ e. disabled_unfree (beans ++ more) larger b (λ free. true≢false (once b true false (enabled_free beans b (narrowed_free b lt free)) e)),
      λ e. disabled_unfree beans forest b (λ free. true≢false (once b true false (enabled_free (beans ++ more) b (widened_free free)) e)),
    )
