-- Beans whose class-level bindings meet the same bindings of interceptors have the same chains.
use Rattle.std.proofs.Common.{◌≡◌, ◌∙◌, ℕ, ◌+◌, ◌&&◌, ◌||◌, Bool, true, false, not, cond, nat_eq, List, [], ◌∷◌, filter, map, Option, Some, None, refl, sym, ap}
use Rattle.std.specs.List.{enumerate_from, list_all, list_any}
use Rattle.std.proofs.lemmas.Bool.{and_parts, eqb-true, true≢false}
use Rattle.cdi_base.specs.declared.place.InterceptorMethod.{InterceptorMethod}
use Rattle.cdi_beans.specs.declared.bean.EnabledInterceptor.{EnabledInterceptor}
use Rattle.cdi_plans.proofs.Bound.{had_by_either}
use Rattle.cdi_plans.specs.Bindings.{bindings_had, is_met_by_class, names_type}
use Rattle.cdi_plans.specs.Chains.{chain_with, is_bound, method_of, places_from}
use Rattle.cdi_plans.specs.Meeting.{meet_both, meet_same}
use Rattle.cdi_quals.specs.Qualifiers.{agree, has, has_all, same_binding}
use Rattle.cdi_quals.specs.declared.qualifier.Qualifier.{Qualifier}
use Rattle.std.specs.Option.{is_some}

both_or_neither : (x y : Bool) → cond x y (not y) ≡ true → x ≡ y
both_or_neither true y e = sym e
both_or_neither false true e = absurd (true≢false (sym e))
both_or_neither false false e = refl

module _ (own : List Qualifier) (r : Qualifier) where
  -- a class-level binding that is the required one is of its type
  of_its_type : (q : Qualifier) → is_met_by_class own r q ≡ (not (names_type own r) && same_binding r q)
  of_its_type q = by (nat_eq r.name q.name) refl (agree r.members q.members)
    where
      by : (n : Bool) → nat_eq r.name q.name ≡ n → (a : Bool) → (not (names_type own q) && (n && a)) ≡ (not (names_type own r) && (n && a))
      by true same a = ap (λ (name : ℕ). not (list_any (λ (o : Qualifier). nat_eq o.name name) own) && a) (sym (eqb-true r.name q.name same))
      by false other a = none (not (names_type own q)) ∙ sym (none (not (names_type own r)))
        where
          none : (x : Bool) → (x && false) ≡ false
          none true = refl
          none false = refl

  -- the class has it if the member names none of its type
  class_has : (of_class : List Qualifier) → list_any (is_met_by_class own r) of_class ≡ (not (names_type own r) && has of_class r)
  class_has [] = none (not (names_type own r))
    where
      none : (x : Bool) → false ≡ (x && false)
      none true = refl
      none false = refl
  class_has (q ∷ qs) =
      ap (λ t. t || list_any (is_met_by_class own r) qs) (of_its_type q)
      ∙ ap (λ t. (not (names_type own r) && same_binding r q) || t) (class_has qs)
      ∙ by (not (names_type own r)) (same_binding r q) (has qs r)
    where
      by : (x b c : Bool) → ((x && b) || (x && c)) ≡ (x && (b || c))
      by true b c = refl
      by false b c = refl

module _ (own some others : List Qualifier) where
  one_met : (r : Qualifier) → meet_both some others r ≡ true → has (bindings_had own some) r ≡ has (bindings_had own others) r
  one_met r e =
      had_by_either own some r
      ∙ ap (λ t. has own r || t)
      (class_has own r some
      ∙ ap (λ t. not (names_type own r) && t) (both_or_neither (has some r) (has others r) e)
      ∙ sym (class_has own r others))
      ∙ sym (had_by_either own others r)

  all_met : (rs : List Qualifier) → list_all (meet_both some others) rs ≡ true → has_all (bindings_had own some) rs ≡ has_all (bindings_had own others) rs
  all_met [] e = refl
  all_met (r ∷ rs) e =
      let parts = and_parts (meet_both some others r) (list_all (meet_both some others) rs) e in
      ap (λ t. t && has_all (bindings_had own some) rs) (one_met r parts.0)
      ∙ ap (λ t. has (bindings_had own others) r && t) (all_met rs parts.1)

  module _ (method : InterceptorMethod) where
    bound : (j : EnabledInterceptor) → meet_same some others j ≡ true → is_bound method (bindings_had own some) j ≡ is_bound method (bindings_had own others) j
    bound j e = ap (λ t. is_some (method_of method j) && t) (all_met j.bindings e)

    abbrev kept : List Qualifier → Bool → ℕ → EnabledInterceptor → List EnabledInterceptor → List ℕ
    kept had b k j js =
        map (λ p. p.0)
        (cond b ((k, j) ∷ filter (λ p. is_bound method had p.1) (enumerate_from (k + 1) js)) (filter (λ p. is_bound method had p.1) (enumerate_from (k + 1) js)))

    same_places : (k : ℕ) (js : List EnabledInterceptor) → list_all (meet_same some others) js ≡ true
        → places_from (is_bound method (bindings_had own some)) k js ≡ places_from (is_bound method (bindings_had own others)) k js
    same_places k [] e = refl
    same_places k (j ∷ js) e =
        let parts = and_parts (meet_same some others j) (list_all (meet_same some others) js) e in
        ap (λ b. kept (bindings_had own some) b k j js) (bound j parts.0)
        ∙ by (is_bound method (bindings_had own others) j) (same_places (k + 1) js parts.1)
      where
        by : (b : Bool) → places_from (is_bound method (bindings_had own some)) (k + 1) js ≡ places_from (is_bound method (bindings_had own others)) (k + 1) js
            → kept (bindings_had own some) b k j js ≡ kept (bindings_had own others) b k j js
        by true rest = ap (λ ps. k ∷ ps) rest
        by false rest = rest

pub same_chain : (method : InterceptorMethod) (some others : List Qualifier) (js : List EnabledInterceptor) → list_all (meet_same some others) js ≡ true
    → (own : Option (List Qualifier)) → chain_with method own some js ≡ chain_with method own others js
same_chain method some others js e None = refl
same_chain method some others js e (Some own) = same_places own some others method 0 js e
