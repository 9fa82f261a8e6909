-- Texts that differ by few edits, each of which puts in, takes out or changes one byte.
use Rattle.std.specs.Prelude.{ℕ, ◌==◌, ◌&&◌, ◌||◌, Bool, not, List, [], ◌∷◌, length, nat_le, bytes_eq, find, Option, if◌then◌else◌}
use Rattle.std.specs.Option.{option_or}

-- so many bytes at most
abbrev pub is_at_most : ℕ → List ℕ → Bool
is_at_most n text = nat_le (length text) n

-- the texts differ by at most one edit: behind what begins both, one byte more, one fewer, or another
abbrev pub differ_by_one : List ℕ → List ℕ → Bool
differ_by_one [] other = is_at_most 1 other
differ_by_one (x ∷ xs) [] = is_at_most 1 (x ∷ xs)
differ_by_one (x ∷ xs) (y ∷ ys) =
    if x == y then differ_by_one xs ys
    else bytes_eq xs ys || (bytes_eq xs (y ∷ ys) || bytes_eq (x ∷ xs) ys)

-- by at most two
abbrev pub differ_by_two : List ℕ → List ℕ → Bool
differ_by_two [] other = is_at_most 2 other
differ_by_two (x ∷ xs) [] = is_at_most 2 (x ∷ xs)
differ_by_two (x ∷ xs) (y ∷ ys) =
    if x == y then differ_by_two xs ys
    else differ_by_one xs ys || (differ_by_one xs (y ∷ ys) || differ_by_one (x ∷ xs) ys)

-- a text of two bytes or more may miss one by one edit
abbrev pub is_near : List ℕ → List ℕ → Bool
is_near written known = not (is_at_most 1 written) && differ_by_one written known

-- and one of five bytes or more by two
abbrev pub is_rather_near : List ℕ → List ℕ → Bool
is_rather_near written known = not (is_at_most 4 written) && differ_by_two written known

-- the first that is near, or else the first that is rather near
abbrev pub nearest : List ℕ → List (List ℕ) → Option (List ℕ)
nearest written known =
    option_or (find (is_near written) known) (find (is_rather_near written) known)
