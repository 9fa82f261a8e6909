-- What is kept of a bean stands at its index.
use Rattle.std.proofs.Common.{ℕ, zero, suc, ◌≡◌, ◌∙◌, true, List, [], ◌∷◌, refl, sym, ap}
use Rattle.std.specs.Prelude.{slice_get, ◌&&◌}
use Rattle.std.specs.List.{AllZip, list_all}
use Rattle.std.proofs.lemmas.Bool.{and_from}
use Rattle.cdi_bean_lives.specs.Beans.{numbers_kept}
use Rattle.cdi_bean_lives.specs.declared.kept.KeptBean.{KeptBean}
use Rattle.cdi_class_lives.specs.declared.lives.ClassLives.{ClassLives}
use Rattle.cdi_numbered_plans.specs.Numbers.{has_numbers}
use Rattle.cdi_run_tables.specs.Kept.{IsKeptAt, IsKeptOf}
use Rattle.cdi_run_tables.specs.Parts.{PlannedBean, RunParts}
use Rattle.cdi_run_tables.specs.Sizes.{has_few_injections}

module _ (t : RunParts) (l : ClassLives) where
  pub kept_at : (beans : List PlannedBean) (kept : List KeptBean) → AllZip (IsKeptOf t l) beans kept → (n : ℕ) → IsKeptAt t l (slice_get beans n) (slice_get kept n)
  kept_at [] [] a n = tt
  kept_at [] (k ∷ ks) a n = absurd a
  kept_at (b ∷ bs) [] a n = absurd a
  kept_at (b ∷ bs) (k ∷ ks) a zero = a.0
  kept_at (b ∷ bs) (k ∷ ks) a (suc n) = kept_at bs ks a.1 n

  -- whether all plans have numbers
  pub have_numbers : (beans : List PlannedBean) (kept : List KeptBean) → AllZip (IsKeptOf t l) beans kept → list_all numbers_kept kept ≡ list_all (λ (b : PlannedBean). has_numbers b.plan) beans
  have_numbers [] [] a = refl
  have_numbers [] (k ∷ ks) a = absurd a
  have_numbers (b ∷ bs) [] a = absurd a
  have_numbers (b ∷ bs) (k ∷ ks) a =
      ap (λ x. x && list_all numbers_kept ks) (sym a.0.numbers) ∙ ap (λ x. has_numbers b.plan && x) (have_numbers bs ks a.1)

  -- none has too many injected fields
  pub have_few : (beans : List PlannedBean) (kept : List KeptBean) → AllZip (IsKeptOf t l) beans kept → list_all has_few_injections beans ≡ true
  have_few [] [] a = refl
  have_few [] (k ∷ ks) a = absurd a
  have_few (b ∷ bs) [] a = absurd a
  have_few (b ∷ bs) (k ∷ ks) a = and_from (has_few_injections b) (list_all has_few_injections bs) a.0.few (have_few bs ks a.1)
