-- What is found so far, and the beans that are left to look at.
use Rattle.std.proofs.Common.{◌≡◌, ◌∙◌, ℕ, ◌+◌, ◌<◌, ◌≤◌, ◌&&◌, suc, Option, Some, None, Bool, true, false, List, [], ◌∷◌, length, drop, get_or, filter, fold, cond, refl, sym, ap, drop-cons, add-one}
use Rattle.std.proofs.lemmas.List.{drop_all}
use Rattle.std.specs.List.{enumerate_from, cons_option}
use Rattle.std.specs.Option.{option_map, is_some}
use Rattle.std.specs.Prelude.{ℤ, slice_index}
use Rattle.cdi_resolve.specs.Narrowing.{left_at, left_in}
use Rattle.cdi_resolve.specs.declared.filter.Left.{Left}
use Rattle.cdi_resolve.specs.declared.question.Question.{Question}
use Rattle.cdi_beans.specs.declared.bean.Bean.{Bean}
use Rattle.cdi_resolve.specs.Resolution.{sole, greater, all_have_priority}
use Rattle.cdi_resolve.specs.declared.resolution.Resolution.{Resolution}
use Rattle.cdi_resolve.specs.declared.resolution.Resolution.TheVariants.{Nothing, One, Many}

abbrev pub one_more : ℕ → List (ℕ × Bean) → Resolution
one_more found [] = One found
one_more found (b ∷ bs) = Many

-- what is found in all, if this is found in front of those ahead
abbrev pub found_with : Resolution → List (ℕ × Bean) → Resolution
found_with Nothing ahead = sole ahead
found_with (One b) ahead = one_more b ahead
found_with Many ahead = Many

pub next_found : (b : ℕ × Bean) (ahead : List (ℕ × Bean)) → found_with (One b.0) ahead ≡ sole (b ∷ ahead)
next_found b [] = refl
next_found b (c ∷ bs) = refl

pub many_found : (found : Resolution) (b : ℕ × Bean) (ahead : List (ℕ × Bean)) → ((found ≡ Nothing) → ⊥) → Many ≡ found_with found (b ∷ ahead)
many_found Nothing b ahead some = absurd (some refl)
many_found (One a) b ahead some = refl
many_found Many b ahead some = refl

pub none_ahead : (found : Resolution) → found_with found [] ≡ found
none_ahead Nothing = refl
none_ahead (One b) = refl
none_ahead Many = refl

-- the highest priority in all, if this is found in front of those ahead
abbrev pub highest_with : Option ℤ → List (ℕ × Bean) → Option ℤ
highest_with found ahead = cond (all_have_priority ahead) (fold (λ p b. greater p b.1.priority) found ahead) None

abbrev next_highest : Option ℤ → Option ℤ → List (ℕ × Bean) → Option ℤ
next_highest priority found ahead = cond (is_some priority && all_have_priority ahead) (fold (λ p b. greater p b.1.priority) (greater found priority) ahead) None

pub next_without : (found : Option ℤ) (i : ℕ) (b : Bean) (ahead : List (ℕ × Bean)) → b.priority ≡ None → highest_with found ((i, b) ∷ ahead) ≡ None
next_without found i b ahead e = ap (λ o. next_highest o found ahead) e

pub next_with : (found : Option ℤ) (i : ℕ) (b : Bean) (priority : ℤ) (ahead : List (ℕ × Bean)) → b.priority ≡ Some priority → highest_with found ((i, b) ∷ ahead) ≡ highest_with (greater found (Some priority)) ahead
next_with found i b priority ahead e = ap (λ o. next_highest o found ahead) e

-- the next index of a row is looked at
pub next_left : (q : Question) (left : Left) (row : List ℕ) (i : ℕ) → i < length row → left_in q left (drop i row) ≡ cons_option (option_map (λ b. (slice_index row i, b)) (left_at q left (slice_index row i))) (left_in q left (drop (i + 1) row))
next_left q left row i lt =
    let next : drop i row ≡ slice_index row i ∷ drop (i + 1) row = rw add-one (drop-cons row i 0 lt) in
    ap (left_in q left) next

-- a loop over the beans, with their indices, looks at the next one
module _ {S : Type 0} (f : S → ℕ × Bean → S) (p : ℕ × Bean → Bool) (beans : List Bean) (found : S) (i : ℕ) (b : Bean) (lt : i < length beans) (is : b ≡ get_or beans i b) where
  abbrev ahead : ℕ → List (ℕ × Bean)
  ahead k = filter p (enumerate_from k (drop k beans))

  next : drop i beans ≡ b ∷ drop (i + 1) beans
  next = rw add-one (drop-cons beans i b lt ∙ ap (λ x. x ∷ drop (suc i) beans) (sym is))

  next_ahead : ahead i ≡ filter p ((i, b) ∷ enumerate_from (i + 1) (drop (i + 1) beans))
  next_ahead = ap (λ xs. filter p (enumerate_from i xs)) next

  pub counted : p (i, b) ≡ true → fold f (f found (i, b)) (ahead (i + 1)) ≡ fold f found (ahead i)
  counted e = sym (ap (fold f found) (next_ahead ∙ ap (λ t. cond t ((i, b) ∷ ahead (i + 1)) (ahead (i + 1))) e))

  pub passed_over : p (i, b) ≡ false → fold f found (ahead (i + 1)) ≡ fold f found (ahead i)
  passed_over e = sym (ap (fold f found) (next_ahead ∙ ap (λ t. cond t ((i, b) ∷ ahead (i + 1)) (ahead (i + 1))) e))

-- behind the last bean
pub at_end : {S : Type 0} (f : S → ℕ × Bean → S) (p : ℕ × Bean → Bool) (beans : List Bean) (found : S) (i : ℕ) → length beans ≤ i → fold f found (filter p (enumerate_from i (drop i beans))) ≡ found
at_end f p beans found i past = ap (λ bs. fold f found (filter p (enumerate_from i bs))) (drop_all i beans past)
