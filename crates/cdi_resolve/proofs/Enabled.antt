-- The enabled bean with an index.
use Rattle.std.proofs.Common.{◌≡◌, ◌∙◌, ℕ, zero, suc, ◌+◌, ◌<◌, Bool, true, false, nat_eq, cond, List, [], ◌∷◌, filter, Option, Some, None, refl, ap, arith}
use Rattle.std.proofs.lemmas.Bool.Decides.{nat_tests}
use Rattle.std.specs.Prelude.{slice_get}
use Rattle.std.specs.List.{enumerate_from}
use Rattle.cdi_base.specs.Maps.{at}
use Rattle.cdi_beans.specs.declared.bean.Bean.{Bean}
use Rattle.cdi_resolve.specs.Filters.{is_enabled}

module _ (flags : List Bool) (i : ℕ) where
  abbrev flagged : ℕ × Bean → Bool
  flagged p = is_enabled flags p.0

  -- the enabled ones of these beans, the first of which has this index
  abbrev enabled_from : ℕ → List Bean → List (ℕ × Bean)
  enabled_from k bs = filter flagged (enumerate_from k bs)

  abbrev first_or : Bool → ℕ → Bean → List (ℕ × Bean) → List (ℕ × Bean)
  first_or f k b rest = cond f ((k, b) ∷ rest) rest

  module _ (off : is_enabled flags i ≡ false) where
    passed : (f : Bool) (k : ℕ) (b : Bean) (rest : List (ℕ × Bean)) → is_enabled flags k ≡ f → (e : Bool) → nat_eq i k ≡ e → at rest i ≡ None → at (first_or f k b rest) i ≡ None
    passed false k b rest h e is further = further
    passed true k b rest h false is further = ap (λ t. cond t (Some b) (at rest i)) is ∙ further
    passed true k b rest h true is further = absurd (let same : i ≡ k = grind (arith, nat_tests) in cc)

    pub disabled_at : (k : ℕ) (bs : List Bean) → at (enabled_from k bs) i ≡ None
    disabled_at k [] = refl
    disabled_at k (b ∷ bs) = passed (is_enabled flags k) k b (enabled_from (k + 1) bs) refl (nat_eq i k) refl (disabled_at (k + 1) bs)

  module _ (on : is_enabled flags i ≡ true) where
    here : (f : Bool) (k : ℕ) (b : Bean) (rest : List (ℕ × Bean)) → is_enabled flags k ≡ f → (e : Bool) → nat_eq i k ≡ e → i ≡ k → at (first_or f k b rest) i ≡ Some b
    here true k b rest h true is same = ap (λ t. cond t (Some b) (at rest i)) is
    here true k b rest h false is same = absurd (grind (arith, nat_tests))
    here false k b rest h e is same = absurd cc

    beyond : (f : Bool) (k : ℕ) (b : Bean) (rest : List (ℕ × Bean)) → (e : Bool) → nat_eq i k ≡ e → k < i → (found : Option Bean) → at rest i ≡ found → at (first_or f k b rest) i ≡ found
    beyond false k b rest e is more found further = further
    beyond true k b rest false is more found further = ap (λ t. cond t (Some b) (at rest i)) is ∙ further
    beyond true k b rest true is more found further = absurd (grind (arith, nat_tests))

    pub enabled_at : (k d : ℕ) (bs : List Bean) → i ≡ k + d → at (enabled_from k bs) i ≡ slice_get bs d
    enabled_at k zero [] e = refl
    enabled_at k (suc d) [] e = refl
    enabled_at k zero (b ∷ bs) e = here (is_enabled flags k) k b (enabled_from (k + 1) bs) refl (nat_eq i k) refl (omega arith)
    enabled_at k (suc d) (b ∷ bs) e = beyond (is_enabled flags k) k b (enabled_from (k + 1) bs) (nat_eq i k) refl (omega arith) (slice_get bs d) (enabled_at (k + 1) d bs (omega arith))
