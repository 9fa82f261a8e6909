-- Sets of places that grow.
use Rattle.std.proofs.Common.{◌≡◌, ◌∙◌, ◌||◌, ◌⊎◌, inl, inr, ℕ, ◌+◌, ◌<◌, Bool, true, false, cond, List, [], ◌∷◌, ◌++◌, length, take, drop, get_or, Option, Some, None, Result, Ok, Err, refl, sym, ap, subst, arith}
use Rattle.std.proofs.lemmas.List.{take_more}
use Rattle.std.proofs.lemmas.List.Elements.{Contains-append_left, Contains-append_right, Contains-push_cases}
use Rattle.std.specs.HashSet.{HashSet}
use Rattle.std.specs.List.{Contains, cons_option, list_any, filter_map}
use Rattle.std.specs.Result.{OnOk}
use Rattle.cdi_deployment.specs.declared.deployment.Class.{Class}
use Rattle.cdi_types.specs.Line.{IsLineOf}
use Rattle.cdi_types.proofs.Lines.{one_line}
use Rattle.cdi_quals.proofs.Pairs.{next}
use Rattle.cdi_types.specs.declared.declaration.TypeDeclaration.{TypeDeclaration}
use Rattle.cdi_bean_check.specs.MemberPlaces.{MemberPlace, same_place, has_place, stands_at, IsOfSome, HasPlaces, AddsPlaces}
use Rattle.cdi_bean_check.specs.Repeated.{repeats_at, RepeatsAt}

pub on_ok : {T E P Q : Type 0} (r : Result T E) → (P → Q) → OnOk r P → OnOk r Q
on_ok (Ok x) f p = f p
on_ok (Err e) f p = p

-- what one item more adds
module _ {X S : Type 0} (Has : X → MemberPlace → Type 0) (xs : List X) (i : ℕ) (x : X) (lt : i < length xs) (is : x ≡ get_or xs i x) (set larger : HashSet MemberPlace S) where
  longer : take (i + 1) xs ≡ take i xs ++ x ∷ []
  longer = take_more xs i x lt ∙ ap (λ y. take i xs ++ y ∷ []) (sym is)

  among : (y : X) → Contains (take i xs ++ x ∷ []) y → Contains (take (i + 1) xs) y
  among y c = let P : List X → Type 0 = λ ys. Contains ys y in subst P (sym longer) c

  pub one_more : AddsPlaces (Has x) set larger → HasPlaces (IsOfSome Has (take i xs)) set → HasPlaces (IsOfSome Has (take (i + 1) xs)) larger
  one_more adds so_far place = (
    λ h. (elim ((adds place).0 h) [
      | inl here ↦ record { item = x; listed = among x (Contains-append_right (take i xs) (x ∷ []) x (0, omega arith, refl)); has = here }
      | inr old ↦ (let o = (so_far place).0 old in record { item = o.item; listed = among o.item (Contains-append_left (take i xs) (x ∷ []) o.item o.listed); has = o.has })
    ]),
    λ s. (
        let P : List X → Type 0 = λ ys. Contains ys s.item in
        let Q : X → Type 0 = λ y. Has y place in
        (adds place).1 (elim (Contains-push_cases (take i xs) x s.item (subst P longer s.listed)) [
          | inl before ↦ inr ((so_far place).1 (record { item = s.item; listed = before; has = s.has }))
          | inr same ↦ inl (subst Q (sym same) s.has)
        ])
        ),
  )

pub either : (a b : Bool) → (a || b) ≡ true → (a ≡ true) ⊎ (b ≡ true)
either true b e = inl refl
either false b e = inr e

pub by_first : (a b : Bool) → a ≡ true → (a || b) ≡ true
by_first true b e = refl
by_first false b e = absurd cc

pub by_second : (a b : Bool) → b ≡ true → (a || b) ≡ true
by_second true b e = refl
by_second false b e = e

module _ {S : Type 0} (classes : List Class) (types : List TypeDeclaration) (old new : HashSet MemberPlace S) where
  one_name : (a b : ℕ) → Some a ≡ Some b → a ≡ b
  one_name a b e = cc

  -- the names that a class repeats of its superclasses
  pub of_superclasses : (c : Class) (direct : ℕ) (line : List Class) → c.extends ≡ Some direct → IsLineOf types classes direct line
      → ((place : MemberPlace) → has_place new place ≡ (list_any (repeats_at c place) line || has_place old place))
      → AddsPlaces (RepeatsAt classes types c) old new
  of_superclasses c direct line extends is_line is place = (
    λ h. (elim (either (list_any (repeats_at c place) line) (has_place old place) (sym (is place) ∙ h)) [
      | inl there ↦ inl (record { direct = direct; extends = extends; line = line; is_line = is_line; repeats = there })
      | inr before ↦ inr before
    ]),
    λ s. is place ∙ (elim s [
      | inl there ↦ (
          let P : ℕ → Type 0 = λ n. IsLineOf types classes n there.line in
          let own : IsLineOf types classes direct there.line = subst P (one_name there.direct direct (sym there.extends ∙ extends)) there.is_line in
          let same : there.line ≡ line = one_line types classes direct there.line line own is_line in
          by_first (list_any (repeats_at c place) line) (has_place old place) (ap (list_any (repeats_at c place)) (sym same) ∙ there.repeats)
          )
      | inr before ↦ by_second (list_any (repeats_at c place) line) (has_place old place) before
    ]),
  )

or_between : (a b c : Bool) → (b || cond a true c) ≡ ((a || b) || c)
or_between true true c = refl
or_between true false c = refl
or_between false true c = refl
or_between false false c = refl

-- one part more is looked at
module _ {X S : Type 0} (g : X → Option MemberPlace) (xs : List X) (i : ℕ) (x : X) (lt : i < length xs) (is : x ≡ get_or xs i x) (set : HashSet MemberPlace S)
    (total : MemberPlace → Bool) (so_far : (p : MemberPlace) → (stands_at (filter_map g (drop i xs)) p || has_place set p) ≡ total p) where
  first : (o : Option MemberPlace) → g x ≡ o → (p : MemberPlace) → (stands_at (cons_option o (filter_map g (drop (i + 1) xs))) p || has_place set p) ≡ total p
  first o e p =
      sym (ap (λ ys. stands_at (filter_map g ys) p || has_place set p) (next xs i x lt is) ∙ ap (λ o. stands_at (cons_option o (filter_map g (drop (i + 1) xs))) p || has_place set p) e)
      ∙ so_far p

  pub adds_place : (place : MemberPlace) → g x ≡ Some place → (larger : HashSet MemberPlace S) → ((p : MemberPlace) → has_place larger p ≡ cond (same_place place p) true (has_place set p))
      → (p : MemberPlace) → (stands_at (filter_map g (drop (i + 1) xs)) p || has_place larger p) ≡ total p
  adds_place place e larger put p =
      ap (λ b. stands_at (filter_map g (drop (i + 1) xs)) p || b) (put p)
      ∙ or_between (same_place place p) (stands_at (filter_map g (drop (i + 1) xs)) p) (has_place set p) ∙ first (Some place) e p

  pub adds_none : g x ≡ None → (p : MemberPlace) → (stands_at (filter_map g (drop (i + 1) xs)) p || has_place set p) ≡ total p
  adds_none e = first None e
