-- Classes whose steps and methods are kept still have them where more are kept.
use Rattle.std.proofs.Common.{ℕ, ◌≡◌, ◌≢◌, ◌∙◌, ◌<◌, ◌≤◌, Bool, true, false, ◌⊎◌, inl, inr, List, [], get_or, option_and_then, option_map, ◌∷◌, ◌++◌, length, map, filter, cond, nat_lt, Option, Some, None, slice_get, refl, sym, ap, subst, arith}
use Rattle.std.proofs.lemmas.Bool.{and_from, and_parts, cases_order, lt-ltb, ltb-true}
use Rattle.std.proofs.lemmas.Option.{get_or_from_slice_get, same_Some, slice_get_cases, slice_get_past, slice_get_within, slice_get-get_or, slice_get-map}
use Rattle.std.proofs.lemmas.List.{get_or_append_left, length-map, length_push}
use Rattle.std.specs.List.{cons_option, filter_map}
use Rattle.cdi_class_lives.proofs.Kept.{is_last, there_still}
use Rattle.cdi_class_lives.specs.Inheriting.{leaves_at}
use Rattle.cdi_class_lives.specs.Kept.{AreKept, IsKept, are_below}
use Rattle.cdi_class_lives.specs.Lives.{inherited}
use Rattle.cdi_class_lives.specs.declared.life.ClassLife.{ClassLife}
use Rattle.cdi_deployment.specs.declared.deployment.Field.{Field}
use Rattle.cdi_machine.specs.declared.step.Step.{Step}
use Rattle.cdi_method_maps.specs.MethodMaps.{IsMap}
use Rattle.cdi_method_maps.specs.declared.method_maps.MethodMaps.{MethodMaps}

-- ---- places

pub are_below_more : (m n : ℕ) (places : List ℕ) → m ≤ n → are_below m places ≡ true → are_below n places ≡ true
are_below_more m n [] le e = refl
are_below_more m n (p ∷ ps) le e =
    let parts = and_parts (nat_lt p m) (are_below m ps) e in
    and_from (nat_lt p n) (are_below n ps) (lt-ltb p n (omega (arith, ltb-true p m parts.0, le))) (are_below_more m n ps le parts.1)

pub are_below_left : (n : ℕ) (p : ℕ → Bool) (places : List ℕ) → are_below n places ≡ true → are_below n (filter p places) ≡ true
are_below_left n p [] e = refl
are_below_left n p (q ∷ qs) e =
    let parts = and_parts (nat_lt q n) (are_below n qs) e in
    by parts.0 (are_below_left n p qs parts.1) (p q)
  where
    by : nat_lt q n ≡ true → are_below n (filter p qs) ≡ true → (b : Bool) → are_below n (cond b (q ∷ filter p qs) (filter p qs)) ≡ true
    by here rest true = and_from (nat_lt q n) (are_below n (filter p qs)) here rest
    by here rest false = rest

pub are_below_both : (n : ℕ) (ps qs : List ℕ) → are_below n ps ≡ true → are_below n qs ≡ true → are_below n (ps ++ qs) ≡ true
are_below_both n [] qs a b = b
are_below_both n (p ∷ ps) qs a b =
    let parts = and_parts (nat_lt p n) (are_below n ps) a in
    and_from (nat_lt p n) (are_below n (ps ++ qs)) parts.0 (are_below_both n ps qs parts.1 b)

module _ {X : Type 0} (kept : List X) where
  -- what stands at places
  abbrev pub told_at : List ℕ → List X
  told_at places = filter_map (slice_get kept) places

  -- of places at which something stands, each tells it
  pub all_there : (places : List ℕ) → are_below (length kept) places ≡ true → map (slice_get kept) places ≡ map Some (told_at places)
  all_there [] e = refl
  all_there (p ∷ ps) e =
      let parts = and_parts (nat_lt p (length kept)) (are_below (length kept) ps) e in
      by (all_there ps parts.1) (ltb-true p (length kept) parts.0) (slice_get_cases kept p).1
    where
      by : map (slice_get kept) ps ≡ map Some (told_at ps) → p < length kept
          → ((x : X) × (p < length kept) × (slice_get kept p ≡ Some x) × (get_or kept p x ≡ x)) ⊎ ((length kept ≤ p) × (slice_get kept p ≡ None))
          → slice_get kept p ∷ map (slice_get kept) ps ≡ map Some (cons_option (slice_get kept p) (told_at ps))
      by rest lt (inl (x, within, e, same)) =
          ap (λ o. o ∷ map (slice_get kept) ps) e ∙ ap (λ os. Some x ∷ os) rest
          ∙ sym (ap (λ o. map Some (cons_option o (told_at ps))) e)
      by rest lt (inr past) = absurd (omega (arith, lt, past.0))

  pub told : (places : List ℕ) (xs : List X) → map (slice_get kept) places ≡ map Some xs → told_at places ≡ xs
  told [] [] e = refl
  told [] (x ∷ xs) e = absurd cc
  told (p ∷ ps) [] e = absurd cc
  told (p ∷ ps) (x ∷ xs) e =
      let first : slice_get kept p ≡ Some x = cc in
      let rest : map (slice_get kept) ps ≡ map Some xs = cc in
      ap (λ o. cons_option o (told_at ps)) first ∙ ap (λ ys. x ∷ ys) (told ps xs rest)

  pub below_if_told : (places : List ℕ) (xs : List X) → map (slice_get kept) places ≡ map Some xs → are_below (length kept) places ≡ true
  below_if_told [] xs e = refl
  below_if_told (p ∷ ps) [] e = absurd cc
  below_if_told (p ∷ ps) (x ∷ xs) e =
      let first : slice_get kept p ≡ Some x = cc in
      let rest : map (slice_get kept) ps ≡ map Some xs = cc in
      and_from (nat_lt p (length kept)) (are_below (length kept) ps) (lt-ltb p (length kept) (slice_get_within kept p x first)) (below_if_told ps xs rest)

  pub same_length : (places : List ℕ) → are_below (length kept) places ≡ true → length places ≡ length (told_at places)
  same_length places e =
      sym (length-map places (slice_get kept)) ∙ ap length (all_there places e) ∙ length-map (told_at places) Some

  -- the one at an index
  inner : (o : Option X) (q : Option ℕ) → option_map Some o ≡ option_map (slice_get kept) q → o ≡ option_and_then (slice_get kept) q
  inner None None e = refl
  inner None (Some p) e = absurd cc
  inner (Some x) None e = absurd cc
  inner (Some x) (Some p) e = cc

  pub told_get : (places : List ℕ) (i : ℕ) → are_below (length kept) places ≡ true → slice_get (told_at places) i ≡ option_and_then (slice_get kept) (slice_get places i)
  told_get places i e =
      inner (slice_get (told_at places) i) (slice_get places i)
      (sym (slice_get-map Some (told_at places) i) ∙ sym (ap (λ os. slice_get os i) (all_there places e)) ∙ slice_get-map (slice_get kept) places i)

-- ---- classes

module _ (steps more : List Step) (fields others : List Field) (maps those : MethodMaps)
    (grown : length steps ≤ length more) (wider : length fields ≤ length others) (still : (map : ℕ) → IsMap maps map → IsMap those map)
  where
    pub is_kept_still : (life : ClassLife) → IsKept steps fields maps life → IsKept more others those life
    is_kept_still life is = record {
      step_places = are_below_more (length steps) (length more) life.injections grown is.step_places;
      field_places = are_below_more (length fields) (length others) life.fields wider is.field_places;
      map = λ map e. still map (is.map map e);
    }

    pub are_kept_still : (lives : List ClassLife) → AreKept steps fields maps lives → AreKept more others those lives
    are_kept_still lives are = λ class life e. is_kept_still life (are class life e)

-- what a class has of its direct superclass
pub is_kept_below : (steps : List Step) (fields : List Field) (maps : MethodMaps) (above : Option ClassLife) (class : ℕ) (declared : List ℕ)
    → ((life : ClassLife) → above ≡ Some life → IsKept steps fields maps life) → IsKept steps fields maps (inherited above steps class declared)
is_kept_below steps fields maps None class declared are = record { step_places = refl; field_places = refl; map = λ map e. absurd cc }
is_kept_below steps fields maps (Some life) class declared are =
    let is = are life refl in
    record {
      step_places = are_below_left (length steps) (leaves_at declared steps) life.injections is.step_places;
      field_places = is.field_places;
      map = is.map;
    }

-- an element more at the end of a list
module _ {X : Type 0} (xs : List X) (x : X) where
  pub pushed_there : (k : ℕ) (y : X) → slice_get (xs ++ x ∷ []) k ≡ Some y → ((k ≡ length xs) × (x ≡ y)) ⊎ (slice_get xs k ≡ Some y)
  pushed_there k y e = by (cases_order k (length xs))
    where
      by : (k ≡ length xs) ⊎ ((k < length xs) ⊎ (length xs < k)) → ((k ≡ length xs) × (x ≡ y)) ⊎ (slice_get xs k ≡ Some y)
      by (inl at) = inl (at, same_Some x y (sym (is_last xs x) ∙ ap (slice_get (xs ++ x ∷ [])) (sym at) ∙ e))
      by (inr (inl lt)) =
          inr (slice_get-get_or xs k x lt
          ∙ ap Some (sym (get_or_append_left xs (x ∷ []) x k lt) ∙ get_or_from_slice_get (xs ++ x ∷ []) k y x e))
      by (inr (inr gt)) = absurd (omega (arith, gt, slice_get_within (xs ++ x ∷ []) k y e, length_push xs x))

  pub others_stay : (k : ℕ) → k ≢ length xs → slice_get (xs ++ x ∷ []) k ≡ slice_get xs k
  others_stay k other = by (slice_get_cases xs k).1
    where
      by : ((y : X) × (k < length xs) × (slice_get xs k ≡ Some y) × (get_or xs k y ≡ y)) ⊎ ((length xs ≤ k) × (slice_get xs k ≡ None))
          → slice_get (xs ++ x ∷ []) k ≡ slice_get xs k
      by (inl (y, within, e, same)) = there_still xs (x ∷ []) k y e ∙ sym e
      by (inr past) = beyond (cases_order k (length xs))
        where
          beyond : (k ≡ length xs) ⊎ ((k < length xs) ⊎ (length xs < k)) → slice_get (xs ++ x ∷ []) k ≡ slice_get xs k
          beyond (inl at) = absurd (other at)
          beyond (inr (inl lt)) = absurd (omega (arith, lt, past.0))
          beyond (inr (inr gt)) = slice_get_past (xs ++ x ∷ []) k (omega (arith, gt, length_push xs x)) ∙ sym past.1

-- a class more
module _ (steps : List Step) (fields : List Field) (maps : MethodMaps) (lives : List ClassLife) where
  pub are_kept_with : (life : ClassLife) → IsKept steps fields maps life → AreKept steps fields maps lives → AreKept steps fields maps (lives ++ life ∷ [])
  are_kept_with life is are = λ k other e. by k other (pushed_there lives life k other e)
    where
      by : (k : ℕ) (other : ClassLife) → ((k ≡ length lives) × (life ≡ other)) ⊎ (slice_get lives k ≡ Some other) → IsKept steps fields maps other
      by k other (inl last) = subst (IsKept steps fields maps) last.1 is
      by k other (inr there) = are k other there
