-- Rows of beans by keys, and what they list.
use Rattle.std.proofs.Common.{◌≡◌, ◌∙◌, ℕ, suc, ◌+◌, ◌-◌, ◌<◌, ◌≤◌, Bool, true, false, cond, ◌||◌, nat_eq, List, [], ◌∷◌, ◌++◌, length, take, drop, get_or, slice_get, filter, Option, Some, None, refl, sym, ap, append_assoc, drop-cons, add-one, length-append, arith}
use Rattle.std.proofs.lemmas.Bool.Decides.{nat_tests}
use Rattle.std.proofs.lemmas.List.{take_more}
use Rattle.std.proofs.lemmas.List.Elements.{filter_map-append}
use Rattle.std.proofs.lemmas.List.Folds.{list_any-append}
use Rattle.std.proofs.lemmas.Option.{slice_get_read}
use Rattle.std.specs.List.{enumerate_from, cons_option, list_any}
use Rattle.std.specs.Option.{option_map, unwrap_or}
use Rattle.cdi_beans.specs.declared.bean.Bean.{Bean}
use Rattle.cdi_resolve.specs.BeanKeys.{same_key}
use Rattle.cdi_resolve.specs.BeanRows.{is_bean, ends_in, with_last, listed}
use Rattle.cdi_resolve.specs.Filters.{is_enabled}
use Rattle.cdi_resolve.specs.declared.bean_key.BeanKey.{BeanKey}

at_end : (row : List ℕ) (b : ℕ) → slice_get (row ++ b ∷ []) (length row) ≡ Some b
at_end [] b = refl
at_end (x ∷ row) b = at_end row b

one_less : (row : List ℕ) (b : ℕ) → length (row ++ b ∷ []) - 1 ≡ length row
one_less row b = let e = length-append row (b ∷ []) in omega (arith, e)

-- the last of a row is what was added
pub ends_last : (row : List ℕ) (b bean : ℕ) → ends_in (row ++ b ∷ []) bean ≡ nat_eq b bean
ends_last row b bean = ap (is_bean bean) (ap (slice_get (row ++ b ∷ [])) (one_less row b) ∙ at_end row b)

pub first_time : (row : List ℕ) (bean : ℕ) → ends_in row bean ≡ false → with_last row bean ≡ row ++ bean ∷ []
first_time row bean e = ap (λ t. cond t row (row ++ bean ∷ [])) e

pub again : (row : List ℕ) (bean : ℕ) → with_last (row ++ bean ∷ []) bean ≡ row ++ bean ∷ []
again row bean =
    let itself : nat_eq bean bean ≡ true = grind (arith, nat_tests) in
    ap (λ t. cond t (row ++ bean ∷ []) ((row ++ bean ∷ []) ++ bean ∷ [])) (ends_last row bean bean ∙ itself)

-- one key more of a bean
pub added_key : (some here : Bool) (row : List ℕ) (bean : ℕ) → ends_in row bean ≡ false
    → cond here (with_last (cond some (row ++ bean ∷ []) row) bean) (cond some (row ++ bean ∷ []) row) ≡ cond (some || here) (row ++ bean ∷ []) row
added_key true true row bean e = again row bean
added_key true false row bean e = refl
added_key false true row bean e = first_time row bean e
added_key false false row bean e = refl

-- the next bean at a key, enabled or not
module _ (has : Bean → Bool) (beans : List Bean) (flags : List Bool) (i : ℕ) (b : Bean) (lt : i < length beans) (is : b ≡ get_or beans i b) where
  abbrev enabled_from : ℕ → List (ℕ × Bean)
  enabled_from k = filter (λ p. is_enabled flags p.0) (enumerate_from k (drop k beans))

  abbrev having : List (ℕ × Bean) → List (ℕ × Bean)
  having xs = filter (λ x. has x.1) xs

  -- the enabled beans with the key that are ahead
  abbrev pub ahead : ℕ → List (ℕ × Bean)
  ahead k = having (enabled_from k)

  next : drop i beans ≡ b ∷ drop (i + 1) beans
  next = rw add-one (drop-cons beans i b lt ∙ ap (λ x. x ∷ drop (suc i) beans) (sym is))

  next_ahead : ahead i ≡ having (cond (is_enabled flags i) ((i, b) ∷ enabled_from (i + 1)) (enabled_from (i + 1)))
  next_ahead = ap (λ xs. having (filter (λ p. is_enabled flags p.0) (enumerate_from i xs))) next

  there : slice_get beans i ≡ Some b
  there = slice_get_read beans (length beans) i b refl lt is

  listed_more : (row : List ℕ) → listed beans (row ++ i ∷ []) ≡ listed beans row ++ (i, b) ∷ []
  listed_more row = filter_map-append _ row (i ∷ []) ∙ ap (λ o. listed beans row ++ cons_option (option_map (λ (x : Bean). (i, x)) o) []) there

  by_key : (h : Bool) → has b ≡ h → (row : List ℕ) → listed beans (cond h (row ++ i ∷ []) row) ++ ahead (i + 1) ≡ listed beans row ++ cond h ((i, b) ∷ ahead (i + 1)) (ahead (i + 1))
  by_key true e row = ap (λ xs. xs ++ ahead (i + 1)) (listed_more row) ∙ append_assoc (listed beans row) ((i, b) ∷ []) (ahead (i + 1))
  by_key false e row = refl

  pub enabled_more : is_enabled flags i ≡ true → (row : List ℕ) → listed beans (cond (has b) (row ++ i ∷ []) row) ++ ahead (i + 1) ≡ listed beans row ++ ahead i
  enabled_more on row = by_key (has b) refl row ∙ sym (ap (λ xs. listed beans row ++ xs) (next_ahead ∙ ap (λ t. having (cond t ((i, b) ∷ enabled_from (i + 1)) (enabled_from (i + 1)))) on))

  pub disabled_more : is_enabled flags i ≡ false → (row : List ℕ) → listed beans row ++ ahead (i + 1) ≡ listed beans row ++ ahead i
  disabled_more off row = sym (ap (λ xs. listed beans row ++ xs) (next_ahead ∙ ap (λ t. having (cond t ((i, b) ∷ enabled_from (i + 1)) (enabled_from (i + 1)))) off))

-- a row that is fresh for this index and those behind it is so for those behind it, with this index added
pub fresh_more : (has : Bool) (row : List ℕ) (i : ℕ) → ((k : ℕ) → i ≤ k → ends_in row k ≡ false) → (k : ℕ) → i + 1 ≤ k → ends_in (cond has (row ++ i ∷ []) row) k ≡ false
fresh_more true row i fresh k le = let apart : nat_eq i k ≡ false = grind (arith, nat_tests) in ends_last row i k ∙ apart
fresh_more false row i fresh k le = fresh k (omega arith)

-- whether a key is among one key more
pub any_more : (found : List BeanKey) (i : ℕ) (n k : BeanKey) → i < length found → n ≡ get_or found i n → list_any (λ own. same_key own k) (take (i + 1) found) ≡ (list_any (λ own. same_key own k) (take i found) || same_key n k)
any_more found i n k lt is =
    ap (list_any (λ own. same_key own k)) (take_more found i n lt ∙ ap (λ m. take i found ++ m ∷ []) (sym is))
    ∙ list_any-append (λ own. same_key own k) (take i found) (n ∷ [])
    ∙ ap (λ f. list_any (λ own. same_key own k) (take i found) || f) (or_false (same_key n k))
  where
    or_false : (f : Bool) → (f || false) ≡ f
    or_false true = refl
    or_false false = refl

-- the first bean with a key makes its row
pub row_after : (here : Bool) (before after : Option (List ℕ)) (row : List ℕ) (bean : ℕ) → after ≡ cond here (Some row) before → (here ≡ true → before ≡ None) → row ≡ bean ∷ [] → unwrap_or after [] ≡ cond here (with_last (unwrap_or before []) bean) (unwrap_or before [])
row_after true before after row bean e none is = ap (λ o. unwrap_or o []) e ∙ is ∙ ap (λ o. with_last (unwrap_or o []) bean) (sym (none refl))
row_after false before after row bean e none is = ap (λ o. unwrap_or o []) e
