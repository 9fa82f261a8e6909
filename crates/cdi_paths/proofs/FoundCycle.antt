-- A cycle through a node.
use Rattle.std.proofs.Common.{◌≡◌, ℕ, zero, suc, ◌+◌, ◌-◌, ◌<◌, ◌==◌, true, false, List, [], ◌∷◌, ◌++◌, Option, Some, refl, arith, append_assoc}
use Rattle.std.specs.Prelude.{is_some}
use Rattle.cdi_paths.specs.CycleThrough.{hop_of, hops_after, next_hops, way}

pub rounds_done : (goal : ℕ) (graph : List (List ℕ)) (n : ℕ) (hops : List (Option ℕ)) → is_some (hop_of hops goal) ≡ true → hops_after goal graph n hops ≡ hops
rounds_done goal graph zero hops known = refl
rounds_done goal graph (suc n) hops known = rw known refl

pub rounds_left : (goal : ℕ) (graph : List (List ℕ)) (n i : ℕ) (hops : List (Option ℕ)) → i < n → is_some (hop_of hops goal) ≡ false
    → hops_after goal graph (n - (i + 1)) (next_hops goal graph hops) ≡ hops_after goal graph (n - i) hops
rounds_left goal graph n i hops lt unknown =
    let e : n - i ≡ suc (n - (i + 1)) = omega arith in
    rw (e, unknown) refl

pub way_left : (goal : ℕ) (hops : List (Option ℕ)) (n i a b : ℕ) (nodes : List ℕ) → i < n → hop_of hops a ≡ Some b → (b == goal) ≡ false
    → (nodes ++ b ∷ []) ++ way goal hops (n - (i + 1)) b ≡ nodes ++ way goal hops (n - i) a
way_left goal hops n i a b nodes lt hop other =
    let e : n - i ≡ suc (n - (i + 1)) = omega arith in
    rw (append_assoc, e, hop, other) refl

pub way_done : (goal : ℕ) (hops : List (Option ℕ)) (n i a b : ℕ) (nodes : List ℕ) → i < n → hop_of hops a ≡ Some b → (b == goal) ≡ true
    → nodes ++ b ∷ [] ≡ nodes ++ way goal hops (n - i) a
way_done goal hops n i a b nodes lt hop same =
    let e : n - i ≡ suc (n - (i + 1)) = omega arith in
    rw (e, hop, same) refl
