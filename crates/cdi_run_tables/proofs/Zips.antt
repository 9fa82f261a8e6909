-- Lists that go side by side and are extended item by item.
use Rattle.std.proofs.Common.{ℕ, ◌≡◌, ◌+◌, ◌<◌, List, [], ◌∷◌, ◌++◌, length, take, get_or, sym, subst}
use Rattle.std.proofs.lemmas.List.{take_more}
use Rattle.std.specs.List.{AllZip}

pub zip_append : {X Y : Type 0} (R : X → Y → Type 0) (xs : List X) (x : X) (ys : List Y) (y : Y) → AllZip R xs ys → R x y → AllZip R (xs ++ x ∷ []) (ys ++ y ∷ [])
zip_append R [] x [] y a p = (p, tt)
zip_append R [] x (z ∷ ys) y a p = absurd a
zip_append R (w ∷ xs) x [] y a p = absurd a
zip_append R (w ∷ xs) x (z ∷ ys) y a p = (a.0, zip_append R xs x ys y a.1 p)

-- a loop looks at one item more
pub zip_more : {X Y : Type 0} (R : X → Y → Type 0) (xs : List X) (ys : List Y) (i : ℕ) (x : X) (y : Y) → i < length xs → x ≡ get_or xs i x → AllZip R (take i xs) ys → R x y → AllZip R (take (i + 1) xs) (ys ++ y ∷ [])
zip_more {X} R xs ys i x y lt is so_far p =
    let P : List X → Type 0 = λ zs. AllZip R zs (ys ++ y ∷ []) in
    let Q : X → Type 0 = λ z. R z y in
    subst P (sym (take_more xs i x lt)) (zip_append R (take i xs) (get_or xs i x) ys y so_far (subst Q is p))
