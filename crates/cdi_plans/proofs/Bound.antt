-- The bindings that a member has, from itself and from its class.
use Rattle.std.proofs.Common.{◌≡◌, ◌∙◌, ◌&&◌, ◌||◌, Bool, true, false, not, cond, List, [], ◌∷◌, ◌++◌, filter, refl, ap}
use Rattle.std.specs.List.{list_any}
use Rattle.cdi_quals.specs.Qualifiers.{has, same_binding}
use Rattle.cdi_quals.specs.declared.qualifier.Qualifier.{Qualifier}
use Rattle.cdi_plans.specs.Bindings.{bindings_had, is_met_by_class, names_type}

any_kept : {X : Type 0} (p q : X → Bool) (xs : List X) → list_any p (filter q xs) ≡ list_any (λ x. q x && p x) xs
any_kept p q [] = refl
any_kept p q (x ∷ xs) = by (q x) (any_kept p q xs)
  where
    by : (b : Bool) → list_any p (filter q xs) ≡ list_any (λ y. q y && p y) xs → list_any p (cond b (x ∷ filter q xs) (filter q xs)) ≡ ((b && p x) || list_any (λ y. q y && p y) xs)
    by true e = ap (λ t. p x || t) e
    by false e = e

any_of_both : {X : Type 0} (p : X → Bool) (xs ys : List X) → list_any p (xs ++ ys) ≡ (list_any p xs || list_any p ys)
any_of_both p [] ys = refl
any_of_both p (x ∷ xs) ys = by (p x) (any_of_both p xs ys)
  where
    by : (b : Bool) → list_any p (xs ++ ys) ≡ (list_any p xs || list_any p ys) → (b || list_any p (xs ++ ys)) ≡ ((b || list_any p xs) || list_any p ys)
    by true e = refl
    by false e = e

pub had_by_either : (own of_class : List Qualifier) (q : Qualifier) → has (bindings_had own of_class) q ≡ (has own q || list_any (is_met_by_class own q) of_class)
had_by_either own of_class q =
    any_of_both (same_binding q) own (filter (λ c. not (names_type own c)) of_class)
    ∙ ap (λ t. has own q || t) (any_kept (same_binding q) (λ c. not (names_type own c)) of_class)

-- without bindings of its own it has those of the class
pub all_of_class : (of_class : List Qualifier) → bindings_had [] of_class ≡ of_class
all_of_class [] = refl
all_of_class (q ∷ qs) = ap (λ t. q ∷ t) (all_of_class qs)
