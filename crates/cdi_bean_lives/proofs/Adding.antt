-- A class is added behind the line above it, and each class that is kept has what its line gives it.
use Rattle.std.proofs.Common.{ℕ, ◌≡◌, ◌≢◌, ◌∙◌, Bool, true, false, nat_eq, List, [], ◌∷◌, ◌++◌, Option, Some, None, option_map, refl, sym, ap, subst}
use Rattle.std.proofs.lemmas.Bool.{eqb-false, eqb-true}
use Rattle.std.proofs.lemmas.List.Elements.{filter_map-append}
use Rattle.std.proofs.lemmas.Option.{same_Some}
use Rattle.std.specs.List.{cons_option}
use Rattle.cdi_bean_lives.proofs.Below.{HasAbove, has_life, place_of}
use Rattle.cdi_bean_lives.specs.Lives.{AreLives, HasLife, InheritsIf, IsKeptIfAny, IsLineAbove, IsLineBelow, IsOwnLife, classes_named}
use Rattle.cdi_bean_lives.specs.declared.class.KeptClass.{KeptClass}
use Rattle.cdi_class_lives.specs.ClassLives.{IsAdded, KeepsLife, life_from, life_of, line_in, line_of}
use Rattle.cdi_class_lives.specs.Lives.{longer}
use Rattle.cdi_class_lives.specs.declared.life.ClassLife.{ClassLife}
use Rattle.cdi_class_lives.specs.declared.lives.ClassLives.{ClassLives}
use Rattle.cdi_class_lives.specs.declared.own_life.OwnLife.{OwnLife}
use Rattle.cdi_deployment.specs.declared.deployment.Class.{Class}
use Rattle.cdi_numbered_plans.specs.declared.numbering.Numbering.{Numbering}
use Rattle.cdi_planner.specs.Tables.{PlanTables}
use Rattle.cdi_types.specs.Line.{class_named}

-- ---- the last one of a line

abbrev last_of : ℕ → List ℕ → ℕ
last_of d [] = d
last_of d (x ∷ xs) = last_of x xs

last_pushed : (xs : List ℕ) (x d : ℕ) → last_of d (xs ++ x ∷ []) ≡ x
last_pushed [] x d = refl
last_pushed (y ∷ xs) x d = last_pushed xs x y

-- one line has one last class
same_last : (xs ys : List ℕ) (x y : ℕ) → xs ++ x ∷ [] ≡ ys ++ y ∷ [] → x ≡ y
same_last xs ys x y e = sym (last_pushed xs x 0) ∙ ap (last_of 0) e ∙ last_pushed ys y 0

-- ---- the line above

module _ (l : ClassLives) where
  -- the line of what is kept is the one that is known
  line_known : (life : Option ClassLife) (names : List ℕ) → option_map (λ (life : ClassLife). life.line) life ≡ Some names → line_in l life ≡ names
  line_known None names e = absurd cc
  line_known (Some life) names e = same_Some life.line names e

-- another class has what the classes of its line give it, if it has what it had
kept_life : (t : PlanTables) (n : Numbering) (old new : ClassLives) (place class : ℕ) (line : List Class) → KeepsLife old new place
    → HasLife t n old place class line → HasLife t n new place class line
kept_life t n old new place class line keeps has = record {
  fields = keeps.fields ∙ has.fields;
  injections = keeps.injections ∙ has.injections;
  post_constructs = keeps.post_constructs ∙ has.post_constructs;
  pre_destroys = keeps.pre_destroys ∙ has.pre_destroys;
  methods = λ name. keeps.methods name ∙ has.methods name;
}

module _ (t : PlanTables) (n : Numbering) (old new : ClassLives) (inherits_methods : Bool) (class : Class) (place : ℕ) where
  -- the line above, with what it has, and that of the class
  record AboveLine (above : Option KeptClass) : Type 0 where
    names : List ℕ
    is : IsLineAbove old above names
    has : HasAbove t n old inherits_methods class.name (classes_named t.classes names) above
    line : line_of new place ≡ Some (names ++ class.name ∷ [])

  above_line : AreLives t n old → (above : Option KeptClass) → IsKeptIfAny old above → InheritsIf t class.name above inherits_methods
      → line_of new place ≡ Some (longer (line_in old (life_from old (place_of above))) class.name) → AboveLine above
  above_line lives None kept inherits line = record { names = []; is = refl; has = refl; line = line }
  above_line lives (Some a) kept inherits line =
      let names : List ℕ = kept.0 ++ a.name ∷ [] in
      record {
        names = names;
        is = kept.1.line;
        has = (lives a.place a.name kept.0 kept.1.line, inherits);
        line = line ∙ ap (λ l. Some (longer l class.name)) (line_known old (life_of old a.place) names kept.1.line);
      }

  module _ (above : Option KeptClass) (own : OwnLife) (added : IsAdded old (place_of above) inherits_methods own new place)
      (is_own : IsOwnLife t n class inherits_methods own) (lives : AreLives t n old) (kept : IsKeptIfAny old above)
      (below : IsLineBelow t old above class) (inherits : InheritsIf t class.name above inherits_methods)
    where
      whole : AboveLine above
      whole = above_line lives above kept inherits (added.line ∙ ap (λ c. Some (longer (line_in old (life_from old (place_of above))) c)) is_own.class_is)

      -- the line, with the class that is found by its name
      found : classes_named t.classes whole.names ++ class ∷ [] ≡ classes_named t.classes (whole.names ++ class.name ∷ [])
      found =
          sym (filter_map-append (class_named t.classes) whole.names (class.name ∷ [])
          ∙ ap (λ o. classes_named t.classes whole.names ++ cons_option o []) below.named)

      new_life : HasLife t n new place class.name (classes_named t.classes (whole.names ++ class.name ∷ []))
      new_life =
          subst (HasLife t n new place class.name) found
          (has_life t n old new above inherits_methods class own place added is_own (classes_named t.classes whole.names) (below.line whole.names whole.is) whole.has)

      pub are_lives : AreLives t n new
      are_lives p c names e = by (nat_eq p place) refl
        where
          at_place : p ≡ place → HasLife t n new p c (classes_named t.classes (names ++ c ∷ []))
          at_place same =
              let lines : whole.names ++ class.name ∷ [] ≡ names ++ c ∷ [] = same_Some _ _ (sym whole.line ∙ ap (line_of new) (sym same) ∙ e) in
              subst (λ q. HasLife t n new q c (classes_named t.classes (names ++ c ∷ []))) (sym same)
              (subst (λ l. HasLife t n new place c (classes_named t.classes l)) lines
              (subst (λ d. HasLife t n new place d (classes_named t.classes (whole.names ++ class.name ∷ []))) (same_last whole.names names class.name c lines) new_life))

          at_other : p ≢ place → HasLife t n new p c (classes_named t.classes (names ++ c ∷ []))
          at_other other =
              let keeps : KeepsLife old new p = added.others p other in
              kept_life t n old new p c (classes_named t.classes (names ++ c ∷ [])) keeps (lives p c names (sym keeps.line ∙ e))

          by : (b : Bool) → nat_eq p place ≡ b → HasLife t n new p c (classes_named t.classes (names ++ c ∷ []))
          by true f = at_place (eqb-true p place f)
          by false f = at_other (eqb-false p place f)
