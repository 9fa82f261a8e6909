-- What the injected fields of a line of classes need, class by class.
use Rattle.std.proofs.Common.{◌≡◌, ◌∙◌, ℕ, suc, ◌+◌, ◌<◌, Bool, true, false, cond, nat_eq, List, [], ◌∷◌, ◌++◌, length, take, get_or, map, Option, Some, None, option_map, unwrap_or, refl, sym, ap, subst, arith}
use Rattle.std.proofs.lemmas.Bool.{eqb-true, true≢false}
use Rattle.std.proofs.lemmas.List.{get_or_default, take_more, map-append}
use Rattle.std.proofs.lemmas.List.Elements.{filter_map-append}
use Rattle.std.proofs.lemmas.List.Folds.{find-append}
use Rattle.std.specs.Prelude.{Contains}
use Rattle.std.specs.List.{find, filter_map, flat_map}
use Rattle.std.specs.Option.{is_some, option_or}
use Rattle.cdi_deployment.specs.declared.deployment.Class.{Class}
use Rattle.cdi_deployment.specs.declared.deployment.InjectedField.{InjectedField}
use Rattle.cdi_types.specs.Line.{class_named, IsLineOf}
use Rattle.cdi_types.specs.Members.{injected_fields_of, parts_of}
use Rattle.cdi_live.specs.FieldNeeds.{needs_of_fields, list_of, AreFieldNeeds, AreNamed}
use Rattle.cdi_live.specs.Needs.{needed_at}
use Rattle.cdi_live.specs.OwnPoints.{Inventory}
use Rattle.cdi_live.specs.Points.{field_point}
use Rattle.cdi_live.specs.declared.field_needs.FieldNeeds.{FieldNeeds}
use Rattle.cdi_live.proofs.Members.{found_in}

name_of : (classes : List Class) (name : ℕ) (c : Class) → class_named classes name ≡ Some c → c.name ≡ name
name_of [] name c e = absurd cc
name_of (d ∷ classes) name c e = by (nat_eq d.name name) refl e (name_of classes name c)
  where
    by : (b : Bool) → nat_eq d.name name ≡ b → cond b (Some d) (class_named classes name) ≡ Some c → (class_named classes name ≡ Some c → c.name ≡ name) → c.name ≡ name
    by true h e more = let same : d ≡ c = cc in ap (λ (k : Class). k.name) (sym same) ∙ eqb-true d.name name h
    by false h e more = more e

module _ (s : Inventory) where
  abbrev classes : List Class
  classes = s.enabled.classes

  -- the classes of a line are those of their names
  pub line_named : (name : ℕ) (line : List Class) → IsLineOf s.enabled.types s.enabled.classes name line → AreNamed s line
  line_named name line is = λ k d lt.
      let c = get_or line k d in
      let there : Contains line c = (k, lt, get_or_default line k c d lt) in
      let P : List Class → Type 0 = λ cs. Contains cs c in
      let found = found_in (class_named classes) is.names c (subst P is.named there) in
      ap (class_named classes) (name_of classes found.item c found.is) ∙ found.is

  -- what a line needs, class by class
  module _ (t : FieldNeeds) (are : AreFieldNeeds s t) where
    of_class : (c : Class) → class_named classes c.name ≡ Some c → list_of t c.name ≡ needs_of_fields s c
    of_class c e = ap (λ o. unwrap_or o []) (are.told c.name ∙ ap (option_map (needs_of_fields s)) e)

    own_points : (c : Class) (fields : List InjectedField) → map (λ (p : Class × InjectedField). field_point p.1) (parts_of c fields) ≡ map field_point fields
    own_points c [] = refl
    own_points c (f ∷ fields) = ap (λ ps. field_point f ∷ ps) (own_points c fields)

    pub of_line : (line : List Class) → AreNamed s line → flat_map (λ c. list_of t c.name) line ≡ filter_map (needed_at s) (map (λ p. field_point p.1) (injected_fields_of line))
    of_line [] named = refl
    of_line (c ∷ line) named =
        let own = parts_of c c.inject in
        let more = injected_fields_of line in
        ap (λ ns. ns ++ flat_map (λ k. list_of t k.name) line) (of_class c (named 0 c (omega arith)))
        ∙ ap (λ ns. needs_of_fields s c ++ ns) (of_line line (λ k d lt. named (suc k) d (omega arith)))
        ∙ ap (λ ps. filter_map (needed_at s) ps ++ filter_map (needed_at s) (map (λ p. field_point p.1) more)) (sym (own_points c c.inject))
        ∙ sym (ap (filter_map (needed_at s)) (map-append (λ p. field_point p.1) own more) ∙ filter_map-append (needed_at s) (map (λ p. field_point p.1) own) (map (λ p. field_point p.1) more))

-- ---- the table, with a class more

module _ (name : ℕ) (classes : List Class) (i : ℕ) (c : Class) where
  pub named_more : i < length classes → c ≡ get_or classes i c → class_named (take (i + 1) classes) name ≡ option_or (class_named (take i classes) name) (cond (nat_eq c.name name) (Some c) None)
  named_more lt is =
      let test : Class → Bool = λ k. nat_eq k.name name in
      ap (find test) (take_more classes i c lt) ∙ ap (λ k. find test (take i classes ++ k ∷ [])) (sym is) ∙ find-append test (take i classes) (c ∷ [])

module _ {X Y : Type 0} (f : X → Y) where
  pub is_some-map : (o : Option X) → is_some (option_map f o) ≡ is_some o
  is_some-map None = refl
  is_some-map (Some x) = refl

  -- a name that isn't known yet gets what its class needs
  pub gets_own : (before : Option X) (here : Bool) (x : X) (y : Y) → y ≡ f x → (here ≡ true → is_some before ≡ false) → cond here (Some y) (option_map f before) ≡ option_map f (option_or before (cond here (Some x) None))
  gets_own (Some w) true x y e h = absurd (true≢false (h refl))
  gets_own None true x y e h = ap (λ z. Some z) e
  gets_own (Some w) false x y e h = refl
  gets_own None false x y e h = refl

  -- and another keeps what it has
  pub keeps_own : (before : Option X) (here : Bool) (x : X) → (here ≡ true → is_some before ≡ true) → option_map f before ≡ option_map f (option_or before (cond here (Some x) None))
  keeps_own (Some w) here x h = refl
  keeps_own None true x h = absurd (true≢false (sym (h refl)))
  keeps_own None false x h = refl
