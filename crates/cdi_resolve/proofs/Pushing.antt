-- A list that is made by pushes.
use Rattle.std.proofs.Common.{◌≡◌, ◌∙◌, ℕ, List, [], ◌∷◌, ◌++◌, fold, append_assoc, append-nil, sym}
use Rattle.cdi_beans.specs.declared.bean.Bean.{Bean}

abbrev pub pushed : List (ℕ × Bean) → ℕ × Bean → List (ℕ × Bean)
pushed xs x = xs ++ x ∷ []

behind : (ys xs : List (ℕ × Bean)) → fold pushed ys xs ≡ ys ++ xs
behind ys [] = sym (append-nil ys)
behind ys (x ∷ xs) = behind (ys ++ x ∷ []) xs ∙ append_assoc ys (x ∷ []) xs

pub all_pushed : (xs : List (ℕ × Bean)) → fold pushed [] xs ≡ xs
all_pushed xs = behind [] xs
