-- Maps as lists of pairs are what an `IndexMap` makes of its entries.
use Rattle.std.proofs.Common.{◌≡◌, ℕ, refl, ap, [], ◌∷◌, cond, nat_eq, Some}
use Rattle.std.specs.Map.{lookup}
use Rattle.indexmap.specs.IndexMap.{insert_entry}
use Rattle.cdi_base.specs.Maps.{Map, at, put}

module _ {X : Type 0} where
  pub at-lookup : (m : Map X) (k : ℕ) → lookup (nat_eq k) m ≡ at m k
  at-lookup [] k = refl
  at-lookup (p ∷ more) k = ap (cond (nat_eq k p.0) (Some p.1)) (at-lookup more k)

  pub put-insert_entry : (m : Map X) (k : ℕ) (x : X) → insert_entry nat_eq m k x ≡ put k x m
  put-insert_entry [] k x = refl
  put-insert_entry (p ∷ more) k x = ap (λ r. cond (nat_eq k p.0) ((p.0, x) ∷ more) (p ∷ r)) (put-insert_entry more k x)
