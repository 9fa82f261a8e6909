-- What a map in order makes of its entries.
use Rattle.std.proofs.Common.{◌≡◌, ◌∙◌, ℕ, refl, ap, sym, subst, [], ◌∷◌, cond, not, true, false, Bool, Some, Option, ◌==◌, arith}
use Rattle.std.specs.Bool.{nat_lt}
use Rattle.std.specs.Map.{lookup, remove_entry, keys_of}
use Rattle.std.specs.BTreeMap.{insert_entry, is_at}
use Rattle.std.specs.Ordering.{nat_cmp, is_eq, match_ordering}
use Rattle.std.specs.List.{AllByRecursion}
use Rattle.std.specs.List.Sorted.{IsStrictlySortedBy}
use Rattle.std.proofs.lemmas.Map.Keys.{sorted_head, sorted_tail}
use Rattle.std.proofs.lemmas.Map.Views.{exact_unsigned_eq}
use Rattle.std.specs.declared.cmp.Ordering.TheVariants.{Less, Equal, Greater}
use Rattle.cdi_base.specs.Maps.{Map, at, put_in_order, without}

apart : (k j : ℕ) → nat_lt k j ≡ true → (k == j) ≡ false
apart k j h = grind arith

pub is_equal : (k j : ℕ) → is_at (nat_cmp k) j ≡ (k == j)
is_equal k j = by (nat_lt k j) (k == j) (apart k j)
  where
    by : (l e : Bool) → (l ≡ true → e ≡ false) → is_eq (cond l Less (cond e Equal Greater)) ≡ e
    by true true h = sym (h refl)
    by true false h = refl
    by false true h = refl
    by false false h = refl

chosen : {Y : Type 0} (a b c : Y) (l e : Bool) → (l ≡ true → e ≡ false) → match_ordering (cond l Less (cond e Equal Greater)) a b c ≡ cond e b (cond l a c)
chosen a b c true true h = ap (λ e. cond e a b) (h refl) ∙ ap (λ e. cond e b b) (sym (h refl))
chosen a b c true false h = refl
chosen a b c false true h = refl
chosen a b c false false h = refl

module _ {X : Type 0} where
  pub at-lookup : (m : Map X) (k : ℕ) → lookup (is_at (nat_cmp k)) m ≡ at m k
  at-lookup [] k = refl
  at-lookup (p ∷ more) k = ap (λ r. cond (is_at (nat_cmp k) p.0) (Some p.1) r) (at-lookup more k) ∙ ap (λ b. cond b (Some p.1) (at more k)) (is_equal k p.0)

  pub put-insert_entry : (m : Map X) (k : ℕ) (x : X) → insert_entry nat_cmp m k x ≡ put_in_order k x m
  put-insert_entry [] k x = refl
  put-insert_entry (p ∷ more) k x =
      chosen ((k, x) ∷ p ∷ more) ((p.0, x) ∷ more) (p ∷ insert_entry nat_cmp more k x) (nat_lt k p.0) (k == p.0) (apart k p.0)
      ∙ ap (λ r. cond (k == p.0) ((p.0, x) ∷ more) (cond (nat_lt k p.0) ((k, x) ∷ p ∷ more) (p ∷ r))) (put-insert_entry more k x)

  -- without a key that is below all keys
  stays : (k : ℕ) (more : Map X) → AllByRecursion (λ j. nat_cmp k j ≡ Less) (keys_of more) → without k more ≡ more
  stays k [] h = refl
  stays k (p ∷ more) h =
      let e : (k == p.0) ≡ false = sym (is_equal k p.0) ∙ ap is_eq h.0 in
      ap (λ b. cond (not b) (p ∷ without k more) (without k more)) e ∙ ap (λ r. p ∷ r) (stays k more h.1)

  pub without-remove_entry : (m : Map X) (k : ℕ) → IsStrictlySortedBy nat_cmp (keys_of m) → remove_entry (is_at (nat_cmp k)) m ≡ without k m
  without-remove_entry [] k h = refl
  without-remove_entry (p ∷ more) k h =
      ap (λ b. cond b more (p ∷ remove_entry (is_at (nat_cmp k)) more)) (is_equal k p.0) ∙ by (k == p.0) refl (without-remove_entry more k (sorted_tail nat_cmp p.0 (keys_of more) h))
    where
      by : (b : Bool) → (k == p.0) ≡ b → remove_entry (is_at (nat_cmp k)) more ≡ without k more → cond b more (p ∷ remove_entry (is_at (nat_cmp k)) more) ≡ cond (not b) (p ∷ without k more) (without k more)
      by true e rest = sym (stays k more (subst (λ j. AllByRecursion (λ i. nat_cmp j i ≡ Less) (keys_of more)) (sym (exact_unsigned_eq k p.0 e)) (sorted_head nat_cmp p.0 (keys_of more) h)))
      by false e rest = ap (λ r. p ∷ r) rest

  -- a change by key, as a map in order states it
  pub at-changed : (m after : Map X) (k : ℕ) (w : Option X) → ((q : ℕ) → lookup (is_at (nat_cmp q)) after ≡ cond (is_at (nat_cmp k) q) w (lookup (is_at (nat_cmp q)) m)) → (b : ℕ) → at after b ≡ cond (k == b) w (at m b)
  at-changed m after k w h b =
      sym (at-lookup after b) ∙ h b ∙ ap (λ t. cond t w (lookup (is_at (nat_cmp b)) m)) (is_equal k b) ∙ ap (cond (k == b) w) (at-lookup m b)
