-- The place of the first declaration of a name, where one declaration more is looked at.
use Rattle.std.proofs.Common.{◌≡◌, ◌∙◌, ℕ, ◌+◌, ◌<◌, ◌≤◌, Bool, true, false, cond, not, ◌||◌, nat_eq, List, [], ◌∷◌, ◌++◌, length, take, get_or, slice_get, option_and_then, option_map, map, position, Option, Some, None, refl, sym, ap, arith, length-append}
use Rattle.std.proofs.lemmas.Bool.{true≢false}
use Rattle.std.proofs.lemmas.Bool.Decides.{nat_tests}
use Rattle.std.proofs.lemmas.Grind.{common_steps}
use Rattle.std.proofs.lemmas.List.{take_more}
use Rattle.std.proofs.lemmas.List.Folds.{find_at, position_or_len_push}
use Rattle.std.proofs.lemmas.Option.{slice_get_past, slice_get-map}
use Rattle.std.proofs.lemmas.List.Sums.{prefix_len-le-length}
use Rattle.std.specs.Bool.{nat_lt}
use Rattle.std.specs.List.{list_any, find, position_or_len}
use Rattle.std.specs.Option.{is_some}
use Rattle.cdi_types.specs.Above.{place_above}
use Rattle.cdi_types.specs.declared.declaration.TypeDeclaration.{TypeDeclaration}
use Rattle.cdi_types.specs.Lineage.{superclass_of}
use Rattle.cdi_types.specs.Nodes.{place_of}

-- the first place, or else this one
abbrev pub or_here : Option ℕ → Bool → ℕ → Option ℕ
or_here (Some k) here i = Some k
or_here None here i = cond here (Some i) None

-- a name that isn't known yet gets this place
pub gets_place : (before : Option ℕ) (here : Bool) (i : ℕ) → (here ≡ true → is_some before ≡ false) → cond here (Some i) before ≡ or_here before here i
gets_place (Some k) true i h = absurd (true≢false (h refl))
gets_place None true i h = refl
gets_place (Some k) false i h = refl
gets_place None false i h = refl

-- and another keeps its own
pub keeps_place : (before : Option ℕ) (here : Bool) (i : ℕ) → (here ≡ true → is_some before ≡ true) → before ≡ or_here before here i
keeps_place (Some k) here i h = refl
keeps_place None true i h = absurd (true≢false (sym (h refl)))
keeps_place None false i h = refl

module _ {X : Type 0} (p : X → Bool) where
  at_place : (n m : ℕ) (here : Bool) → n ≤ m
      → cond (nat_lt (cond (nat_eq n m) (m + cond here 0 1) n) (m + 1)) (Some (cond (nat_eq n m) (m + cond here 0 1) n)) None ≡ or_here (cond (nat_lt n m) (Some n) None) here m
  at_place n m here le = by (nat_eq n m) (nat_lt n m) here refl refl
    where
      by : (e l h : Bool) → nat_eq n m ≡ e → nat_lt n m ≡ l → cond (nat_lt (cond e (m + cond h 0 1) n) (m + 1)) (Some (cond e (m + cond h 0 1) n)) None ≡ or_here (cond l (Some n) None) h m
      by true true h is lt = grind (arith, nat_tests)
      by true false true is lt = grind (arith, nat_tests)
      by true false false is lt = grind (arith, nat_tests)
      by false true h is lt = grind (arith, nat_tests)
      by false false h is lt = grind (arith, nat_tests)

  pub position-push : (xs : List X) (x : X) → position p (xs ++ x ∷ []) ≡ or_here (position p xs) (p x) (length xs)
  position-push xs x =
      ap (λ k. cond (nat_lt k (length (xs ++ x ∷ []))) (Some k) None) (position_or_len_push p xs x)
      ∙ ap (λ n. cond (nat_lt (cond (nat_eq (position_or_len p xs) (length xs)) (length xs + cond (p x) 0 1) (position_or_len p xs)) n) (Some (cond (nat_eq (position_or_len p xs) (length xs)) (length xs + cond (p x) 0 1) (position_or_len p xs))) None) (length-append xs (x ∷ []))
      ∙ at_place (position_or_len p xs) (length xs) (p x) (prefix_len-le-length _ xs)

  is_within : (xs : List X) → nat_lt (position_or_len p xs) (length xs) ≡ list_any p xs
  is_within [] = refl
  is_within (x ∷ xs) = by (is_within xs) (p x)
    where
      same : (n m : ℕ) → nat_lt (1 + n) (1 + m) ≡ nat_lt n m
      same n m = grind (arith, nat_tests)

      by : nat_lt (position_or_len p xs) (length xs) ≡ list_any p xs → (b : Bool) → nat_lt (cond (not b) (1 + position_or_len p xs) 0) (length (x ∷ xs)) ≡ (b || list_any p xs)
      by later true = grind (arith, nat_tests)
      by later false = ap (nat_lt (1 + position_or_len p xs)) (grind arith) ∙ same (position_or_len p xs) (length xs) ∙ later

  pub is_some-position : (xs : List X) → is_some (position p xs) ≡ list_any p xs
  is_some-position xs = by (nat_lt (position_or_len p xs) (length xs)) ∙ is_within xs
    where
      by : (b : Bool) → is_some (cond {A = Option ℕ} b (Some (position_or_len p xs)) None) ≡ b
      by true = refl
      by false = refl

pub place_of-more : (types : List TypeDeclaration) (name i : ℕ) (d : TypeDeclaration) → i < length types → d ≡ get_or types i d
    → place_of (take (i + 1) types) name ≡ or_here (place_of (take i types) name) (nat_eq d.name name) i
place_of-more types name i d within is =
    let len : length (take i types) ≡ i = grind (arith, common_steps) in
    ap (λ ds. place_of ds name) (take_more types i d within) ∙ ap (λ x. place_of (take i types ++ x ∷ []) name) (sym is)
    ∙ position-push (λ d. nat_eq d.name name) (take i types) d ∙ ap (or_here (place_of (take i types) name) (nat_eq d.name name)) len

-- an element that has no place isn't found
pub no_place : {X : Type 0} (p : X → Bool) (xs : List X) → position p xs ≡ None → find p xs ≡ None
no_place p xs e = by (nat_lt (position_or_len p xs) (length xs)) refl e
  where
    by : (b : Bool) → nat_lt (position_or_len p xs) (length xs) ≡ b → cond b (Some (position_or_len p xs)) None ≡ None → find p xs ≡ None
    by true t h = absurd cc
    by false t h = let past : length xs ≤ position_or_len p xs = grind arith in find_at p xs ∙ slice_get_past xs (position_or_len p xs) past

-- what `find` gives is what stands at the place
pub superclass_at : (types : List TypeDeclaration) (name i : ℕ) → place_of types name ≡ Some i → superclass_of types name ≡ option_and_then (λ d. d.superclass) (slice_get types i)
superclass_at types name i e = ap (option_and_then (λ (d : TypeDeclaration). d.superclass)) (find_at p types ∙ ap (slice_get types) (by (nat_lt (position_or_len p types) (length types)) e))
  where
    p : TypeDeclaration → Bool
    p = λ d. nat_eq d.name name

    by : (b : Bool) → cond b (Some (position_or_len p types)) None ≡ Some i → position_or_len p types ≡ i
    by true h = cc
    by false h = absurd cc

pub superclass_nowhere : (types : List TypeDeclaration) (name : ℕ) → place_of types name ≡ None → superclass_of types name ≡ None
superclass_nowhere types name e = ap (option_and_then (λ (d : TypeDeclaration). d.superclass)) (no_place (λ d. nat_eq d.name name) types e)

-- the place of the superclass that is named there
pub place_above_at : (types : List TypeDeclaration) (place : ℕ → Option ℕ) (name above i : ℕ) → place_of types name ≡ Some i → superclass_of types name ≡ Some above
    → slice_get (map (place_above place) types) i ≡ Some (place above)
place_above_at types place name above i e extends =
    slice_get-map (place_above place) types i ∙ by (slice_get types i) (sym (superclass_at types name i e) ∙ extends)
  where
    by : (o : Option TypeDeclaration) → option_and_then (λ d. d.superclass) o ≡ Some above → option_map (place_above place) o ≡ Some (place above)
    by None h = absurd cc
    by (Some d) h = ap (λ s. Some (option_and_then place s)) h
