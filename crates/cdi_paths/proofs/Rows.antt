-- The rows of the next round.
use Rattle.std.proofs.Common.{◌≡◌, ◌∙◌, ℕ, suc, List, [], ◌++◌, ◌||◌, ◌&&◌, length, get_or, take, drop, ap, arith}
use Rattle.std.proofs.lemmas.Grind.{common_steps}
use Rattle.cdi_paths.specs.BitRow.{has_bit}
use Rattle.cdi_paths.specs.Rounds.{has_bit_at, has_path_through}

-- a vector that was lent as a slice
pub written_back : {X : Type 0} (n : ℕ) (new old : List X) → length new ≡ length old → n ≡ length old → take n (new ++ drop (length new) old) ≡ new
written_back n new old same is = grind (arith, common_steps)

pub next_round : (graph rows new : List (List ℕ)) (inner : List ℕ) (k : ℕ) → inner ≡ get_or rows k [] → ((a b : ℕ) → has_bit_at rows a b ≡ has_path_through graph k a b)
    → ((a b : ℕ) → has_bit_at new a b ≡ (has_bit_at rows a b || (has_bit_at rows a k && has_bit inner b))) → (a b : ℕ) → has_bit_at new a b ≡ has_path_through graph (suc k) a b
next_round graph rows new inner k is now next a b =
    next a b ∙ ap (λ r. has_bit_at rows a b || (has_bit_at rows a k && has_bit r b)) is ∙ ap (λ x. x || (has_bit_at rows a k && has_bit_at rows k b)) (now a b)
    ∙ ap (λ x. has_path_through graph k a b || (x && has_bit_at rows k b)) (now a k) ∙ ap (λ x. has_path_through graph k a b || (has_path_through graph k a k && x)) (now k b)
