-- A row of the graph to which one number after another is added, each once.
use Rattle.std.proofs.Common.{◌≡◌, ◌∙◌, ℕ, zero, suc, ◌+◌, ◌<◌, ◌≤◌, Bool, true, false, ◌||◌, cond, nat_eq, List, [], ◌∷◌, ◌++◌, length, set, replicate, take, get_or, Option, Some, None, ◌⊎◌, inl, inr, refl, sym, ap, subst, append-nil, arith, length-set, get_or-set_other}
use Rattle.std.proofs.lemmas.Bool.{eqb-true, true≢false, cases_eq, cases_lt}
use Rattle.std.proofs.lemmas.List.{get_or_default, get_or-replicate, get_or_past, length-replicate}
use Rattle.std.proofs.lemmas.List.Elements.{Contains-append_left, Contains-append_cases, Contains-push, filter_map-append}
use Rattle.std.proofs.lemmas.List.Folds.{list_any-append}
use Rattle.std.proofs.lemmas.Cmp.{nat_eq_equiv}
use Rattle.std.proofs.lemmas.Grind.{get_or-set_at}
use Rattle.std.proofs.lemmas.Map.Keys.{IsDistinct-push}
use Rattle.std.specs.Prelude.{Contains}
use Rattle.std.specs.List.{filter_map, cons_option, list_any, IsDistinct}
use Rattle.cdi_beans.proofs.Adding.{next_of}
use Rattle.cdi_live.specs.Cycles.{flag}
use Rattle.cdi_live.specs.Graphs.{HaveSameItems}

pub same_as : (xs ys : List ℕ) → xs ≡ ys → HaveSameItems xs ys
same_as xs ys e =
    let P : ℕ → List ℕ → Type 0 = λ x zs. Contains zs x in
    record { sound = λ x c. subst (P x) e c; complete = λ x c. subst (P x) (sym e) c }

-- the row so far, each number once, with flags that tell which stand in it
pub record IsRowSoFar (count : ℕ) (xs : List ℕ) (flags : List Bool) (row : List ℕ) : Type 0 where
  pub len : length flags ≡ count
  pub same : HaveSameItems row xs
  pub once : IsDistinct nat_eq row
  pub told : (x : ℕ) → flag flags x ≡ true → Contains row x
  pub free : (x : ℕ) → flag flags x ≡ false → list_any (nat_eq x) row ≡ false

no_flag : (count x : ℕ) → flag (replicate count false) x ≡ false
no_flag count x = by (cases_lt x count)
  where
    by : (x < count) ⊎ (count ≤ x) → flag (replicate count false) x ≡ false
    by (inl lt) = get_or-replicate count x false false lt
    by (inr past) = get_or_past (replicate count false) x false (let len = length-replicate count false in omega arith)

none_twice : IsDistinct nat_eq []
unfolding IsDistinct
none_twice = tt

pub none_yet : (count : ℕ) → IsRowSoFar count [] (replicate count false) []
none_yet count = record { len = length-replicate count false; same = same_as [] [] refl; once = none_twice; told = λ x e. absurd (true≢false (sym e ∙ no_flag count x)); free = λ x e. refl }

module _ (count : ℕ) (xs : List ℕ) (flags : List Bool) (row : List ℕ) (begun : IsRowSoFar count xs flags row) where
  module _ (x : ℕ) (lt : x < count) where
    -- what stands in the row once the number is listed
    told_more : (more : List ℕ) → ((y : ℕ) → Contains row y → Contains more y) → Contains more x → (y : ℕ) → flag (set flags x true) y ≡ true → Contains more y
    told_more more kept own y e = by (cases_eq y x)
      where
        P : ℕ → Type 0
        P = λ z. Contains more z

        by : (y ≡ x) ⊎ (y ≡ x → ⊥) → Contains more y
        by (inl same) = subst P (sym same) own
        by (inr other) = kept y (begun.told y (sym (get_or-set_other flags x y true false other) ∙ e))

    free_more : (more : List ℕ) → ((y : ℕ) → (y ≡ x → ⊥) → list_any (nat_eq y) row ≡ false → list_any (nat_eq y) more ≡ false) → (y : ℕ) → flag (set flags x true) y ≡ false → list_any (nat_eq y) more ≡ false
    free_more more others y e = by (cases_eq y x)
      where
        by : (y ≡ x) ⊎ (y ≡ x → ⊥) → list_any (nat_eq y) more ≡ false
        by (inl same) = let within : x < length flags = omega (arith, begun.len) in absurd (true≢false (sym (get_or-set_at flags x y true false same within) ∙ e))
        by (inr other) = others y other (begun.free y (sym (get_or-set_other flags x y true false other) ∙ e))

    same_more : (more : List ℕ) → ((y : ℕ) → Contains row y → Contains more y) → Contains more x → ((y : ℕ) → Contains more y → Contains row y ⊎ (y ≡ x)) → HaveSameItems more (xs ++ x ∷ [])
    same_more more kept own from = record { sound = λ y c. sound y (from y c); complete = λ y c. complete y (Contains-append_cases xs (x ∷ []) y c) }
      where
        sound : (y : ℕ) → Contains row y ⊎ (y ≡ x) → Contains (xs ++ x ∷ []) y
        sound y (inl c) = Contains-append_left xs (x ∷ []) y (begun.same.sound y c)
        sound y (inr same) = let P : ℕ → Type 0 = λ z. Contains (xs ++ x ∷ []) z in subst P (sym same) (Contains-push xs x)

        complete : (y : ℕ) → Contains xs y ⊎ Contains (x ∷ []) y → Contains more y
        complete y (inl c) = kept y (begun.same.complete y c)
        complete y (inr (zero, within, is)) = let P : ℕ → Type 0 = λ z. Contains more z in subst P is own
        complete y (inr (suc k, within, is)) = absurd (omega arith)

    pub number_more : IsRowSoFar count (xs ++ x ∷ []) (set flags x true) (cond (flag flags x) row (row ++ x ∷ []))
    number_more = by (flag flags x) refl
      where
        len : length (set flags x true) ≡ count
        len = length-set flags x true ∙ begun.len

        one : (y : ℕ) → Contains row y ⊎ Contains (x ∷ []) y → Contains row y ⊎ (y ≡ x)
        one y (inl c) = inl c
        one y (inr (zero, within, is)) = inr (sym is)
        one y (inr (suc k, within, is)) = absurd (omega arith)

        apart : (y : ℕ) → (y ≡ x → ⊥) → (b : Bool) → nat_eq y x ≡ b → nat_eq y x ≡ false
        apart y other true e = absurd (other (eqb-true y x e))
        apart y other false e = e

        others : (y : ℕ) → (y ≡ x → ⊥) → list_any (nat_eq y) row ≡ false → list_any (nat_eq y) (row ++ x ∷ []) ≡ false
        others y other e = list_any-append (nat_eq y) row (x ∷ []) ∙ ap (λ b. b || (nat_eq y x || false)) e ∙ ap (λ b. b || false) (apart y other (nat_eq y x) refl)

        kept : (y : ℕ) → Contains row y → Contains (row ++ x ∷ []) y
        kept y c = Contains-append_left row (x ∷ []) y c

        by : (b : Bool) → flag flags x ≡ b → IsRowSoFar count (xs ++ x ∷ []) (set flags x true) (cond b row (row ++ x ∷ []))
        by true e = record {
          len = len;
          same = same_more row (λ y c. c) (begun.told x e) (λ y c. inl c);
          once = begun.once;
          told = told_more row (λ y c. c) (begun.told x e);
          free = free_more row (λ y other f. f);
        }
        by false e = record {
          len = len;
          same = same_more (row ++ x ∷ []) kept (Contains-push row x) (λ y c. one y (Contains-append_cases row (x ∷ []) y c));
          once = IsDistinct-push nat_eq_equiv row x begun.once (begun.free x e);
          told = told_more (row ++ x ∷ []) kept (Contains-push row x);
          free = free_more (row ++ x ∷ []) others;
        }

-- one item more of a list whose items may have numbers
module _ {X : Type 0} (f : X → Option ℕ) (items : List X) (i : ℕ) (d : X) (lt : i < length items) where
  all_more : filter_map f (take (i + 1) items) ≡ filter_map f (take i items) ++ cons_option (f (get_or items i d)) []
  all_more = let item = get_or items i d in sym (next_of (filter_map f) (filter_map-append f) items i item lt (get_or_default items i d item lt))

  pub with_number : (x : ℕ) → f (get_or items i d) ≡ Some x → filter_map f (take (i + 1) items) ≡ filter_map f (take i items) ++ x ∷ []
  with_number x e = all_more ∙ ap (λ o. filter_map f (take i items) ++ cons_option o []) e

  pub without_number : f (get_or items i d) ≡ None → filter_map f (take (i + 1) items) ≡ filter_map f (take i items)
  without_number e = all_more ∙ ap (λ o. filter_map f (take i items) ++ cons_option o []) e ∙ append-nil (filter_map f (take i items))
