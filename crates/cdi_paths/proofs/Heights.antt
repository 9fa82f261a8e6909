-- A step up through a graph with no cycle lowers the height.
use Rattle.std.proofs.Common.{◌≡◌, ◌∙◌, ℕ, zero, suc, ◌<◌, ◌≤◌, Bool, true, false, cond, List, length, refl, sym, ap, inl, inr, arith}
use Rattle.std.proofs.lemmas.Bool.{cases_Bool, cases_eq}
use Rattle.std.specs.List.{Contains}
use Rattle.cdi_paths.specs.Graph.{targets_of, IsGraph, Path, ProperPath}
use Rattle.cdi_paths.specs.Height.{count_below, height}
use Rattle.cdi_paths.specs.Rounds.{has_path_through}
use Rattle.cdi_paths.proofs.Paths.{edge_within, path_from_through, through_from_path, path_from_proper}

module _ (p q : ℕ → Bool) (more : (i : ℕ) → p i ≡ true → q i ≡ true) where
  at_most : (x y : Bool) → (x ≡ true → y ≡ true) → cond x 1 0 ≤ cond y 1 0
  at_most true y h = let e : y ≡ true = h refl in rw e (omega arith)
  at_most false y h = omega arith

  count_below-le : (n : ℕ) → count_below p n ≤ count_below q n
  count_below-le zero = omega arith
  count_below-le (suc n) = let one = at_most (p n) (q n) (more n) in omega (arith, one, count_below-le n)

  count_below-lt : (n k : ℕ) → k < n → p k ≡ false → q k ≡ true → count_below p n < count_below q n
  count_below-lt zero k lt x y = absurd (omega arith)
  count_below-lt (suc n) k lt x y =
      elim (cases_eq k n) [
        | inl same ↦ (
            let a : p n ≡ false = ap p (sym same) ∙ x in
            let b : q n ≡ true = ap q (sym same) ∙ y in
            let le = count_below-le n in
            rw (a, b) (omega (arith, le))
            )
        | inr other ↦ (let one = at_most (p n) (q n) (more n) in let later = count_below-lt n k (omega arith) x y in omega (arith, one, later))
      ]

pub height-falls : (graph : List (List ℕ)) → IsGraph graph → (a b : ℕ) → Contains (targets_of graph a) b → (ProperPath graph b b → ⊥) → height graph b < height graph a
unfolding height
height-falls graph ok a b e acyclic =
    let n = length graph in
    let none : has_path_through graph n b b ≡ false = elim (cases_Bool (has_path_through graph n b b)) [ inl path ↦ absurd (acyclic (path_from_through graph n b b path)) | inr nothing ↦ nothing ] in
    count_below-lt (has_path_through graph n b) (has_path_through graph n a) (λ i t. through_from_path graph ok a b i e (path_from_proper b i (path_from_through graph n b i t))) n b (edge_within graph ok a b e) none (through_from_path graph ok a b b e Path.here)
