-- Context data are fields, read and written as the definition's maps are.
use Rattle.std.proofs.Common.{◌≡◌, ℕ, nat_eq, Bool, true, false, cond, ◌||◌, List, [], ◌∷◌, Option, Some, None, is_some, refl, ap}
use Rattle.cdi_base.specs.declared.value.Value.{Value}
use Rattle.cdi_base.specs.Fields as fields
use Rattle.cdi_base.specs.Maps.{at, put}

pub put_is : (fs : List (ℕ × Value)) (key : ℕ) (v : Value) → fields.put fs key v ≡ put key v fs
put_is [] key v = refl
put_is (f ∷ fs) key v = ap (λ r. cond (nat_eq key f.0) ((f.0, v) ∷ fs) (f ∷ r)) (put_is fs key v)

pub has_is : (fs : List (ℕ × Value)) (key : ℕ) → fields.has fs key ≡ is_some (at fs key)
has_is [] key = refl
has_is (f ∷ fs) key = by (nat_eq key f.0) (has_is fs key)
  where
    by : (b : Bool) → fields.has fs key ≡ is_some (at fs key)
        → (b || fields.has fs key) ≡ is_some (cond b (Some f.1) (at fs key))
    by true later = refl
    by false later = later

-- what is read, if it is there
pub get_is : (fs : List (ℕ × Value)) (key : ℕ) → fields.has fs key ≡ true
    → Some (fields.get fs key) ≡ at fs key
get_is [] key there = absurd cc
get_is (f ∷ fs) key there = by (nat_eq key f.0) (get_is fs key) there
  where
    by : (b : Bool) → (fields.has fs key ≡ true → Some (fields.get fs key) ≡ at fs key)
        → (b || fields.has fs key) ≡ true
        → Some (cond b f.1 (fields.get fs key)) ≡ cond b (Some f.1) (at fs key)
    by true later there = refl
    by false later there = later there

pub absent_is : (fs : List (ℕ × Value)) (key : ℕ) → fields.has fs key ≡ false → None ≡ at fs key
absent_is fs key absent = by (at fs key) (has_is fs key)
  where
    by : (o : Option Value) → fields.has fs key ≡ is_some o → None ≡ o
    by None e = refl
    by (Some v) e = absurd cc
