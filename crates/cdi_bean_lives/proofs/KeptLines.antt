-- How the classes of a line are added.
use Rattle.std.proofs.Common.{ℕ, ◌≡◌, ◌∙◌, ◌+◌, ◌-◌, ◌<◌, ◌≤◌, ◌⊎◌, inl, inr, List, [], ◌∷◌, ◌++◌, length, take, get_or, Option, Some, None, slice_get, refl, sym, ap, subst, arith}
use Rattle.std.specs.Prelude.{IsSome}
use Rattle.std.specs.List.{cons_option, take-map}
use Rattle.std.proofs.lemmas.List.{length-map, map-append, take_all, take_more}
use Rattle.std.proofs.lemmas.List.Elements.{filter_map-append}
use Rattle.std.proofs.lemmas.Option.{get_or_from_slice_get, same_Some, slice_get_cases, slice_get_within}
use Rattle.cdi_bean_lives.proofs.Rising.{named_so, rising}
use Rattle.cdi_bean_lives.specs.Lives.{IsClassAdded, IsKeptClass, IsLineAbove, IsLineBelow, KeepsLives, classes_named}
use Rattle.cdi_bean_lives.specs.Parts.{IsOfLine, IsPartKept, IsWholeLine, names_of}
use Rattle.cdi_bean_lives.specs.declared.class.KeptClass.{KeptClass}
use Rattle.cdi_class_lives.specs.ClassLives.{line_of}
use Rattle.cdi_class_lives.specs.declared.lives.ClassLives.{ClassLives}
use Rattle.cdi_deployment.specs.declared.deployment.Class.{Class}
use Rattle.cdi_planner.specs.Tables.{PlanTables}
use Rattle.cdi_types.proofs.Listed.{filter_map-from}
use Rattle.cdi_types.specs.Line.{IsLineOf, class_named}
use Rattle.cdi_types.specs.Lineage.{IsLineage}
use Rattle.cdi_types.specs.declared.declaration.TypeDeclaration.{TypeDeclaration}

-- ---- what is kept stays

pub keeps_all : (l : ClassLives) → KeepsLives l l
keeps_all l = λ place line e. record { line = refl; fields = refl; injections = refl; post_constructs = refl; pre_destroys = refl; methods = λ name. refl }

pub keeps_both : (old mid new : ClassLives) → KeepsLives old mid → KeepsLives mid new → KeepsLives old new
keeps_both old mid new first second = λ place line e.
    let a = first place line e in
    let b = second place line (a.line ∙ e) in
    record {
      line = b.line ∙ a.line;
      fields = b.fields ∙ a.fields;
      injections = b.injections ∙ a.injections;
      post_constructs = b.post_constructs ∙ a.post_constructs;
      pre_destroys = b.pre_destroys ∙ a.pre_destroys;
      methods = λ name. b.methods name ∙ a.methods name;
    }

-- ---- the classes of a line by their names

module _ (types : List TypeDeclaration) (classes : List Class) where
  found_again : (name : ℕ) (c : Class) → class_named classes name ≡ Some c → class_named classes c.name ≡ Some c
  found_again name c e = ap (class_named classes) (named_so classes name c e) ∙ e

  again : (names : List ℕ) → classes_named classes (names_of (classes_named classes names)) ≡ classes_named classes names
  again [] = refl
  again (n ∷ ns) = by (class_named classes n) refl (again ns)
    where
      by : (o : Option Class) → class_named classes n ≡ o → classes_named classes (names_of (classes_named classes ns)) ≡ classes_named classes ns
          → classes_named classes (names_of (cons_option o (classes_named classes ns))) ≡ cons_option o (classes_named classes ns)
      by None e rest = rest
      by (Some c) e rest = ap (λ o. cons_option o (classes_named classes (names_of (classes_named classes ns)))) (found_again n c e) ∙ ap (λ cs. c ∷ cs) rest

  again_line : (name : ℕ) (line : List Class) → IsLineOf types classes name line → classes_named classes (names_of line) ≡ line
  again_line name line is = ap (λ cs. classes_named classes (names_of cs)) is.named ∙ again is.names ∙ sym is.named

  found_at : (names : List ℕ) (place : ℕ) (c : Class) → slice_get (classes_named classes names) place ≡ Some c → class_named classes c.name ≡ Some c
  found_at names place c e =
      let line = classes_named classes names in
      let from = filter_map-from (class_named classes) names c (place, slice_get_within line place c e, get_or_from_slice_get line place c c e) in
      found_again from.0 c from.2

  -- the line of a name that a class has ends with that class
  last_of : (name : ℕ) (names : List ℕ) → IsLineage types name names → (d : Class) → class_named classes name ≡ Some d
      → (names ≡ []) ⊎ ((front : List Class) × (classes_named classes names ≡ front ++ d ∷ []))
  last_of name names IsLineage.above_all d e = inl refl
  last_of name names (IsLineage.top below none) d e = inr ([], ap (λ o. cons_option o []) e)
  last_of name names (IsLineage.next {b = b} {names = ns} below some rest) d e =
      inr (classes_named classes ns, filter_map-append (class_named classes) ns (name ∷ []) ∙ ap (λ o. classes_named classes ns ++ cons_option o []) e)

module _ (t : PlanTables) where
  pub is_whole : (name : ℕ) (line : List Class) → IsLineOf t.types t.classes name line → IsWholeLine t line
  is_whole name line is = λ place c e.
      let there : slice_get (classes_named t.classes is.names) place ≡ Some c = subst (λ cs. slice_get cs place ≡ Some c) is.named e in
      let one : 1 + place ≡ place + 1 = omega arith in
      record {
        named = found_at t.types t.classes is.names place c there;
        is_line =
            subst (λ k. IsLineOf t.types t.classes c.name (take k line)) one
            (subst (λ cs. IsLineOf t.types t.classes c.name (take (1 + place) cs)) (sym is.named) (rising t.types t.classes name is.names is.lineage place c there));
      }

  -- ---- parts of a line that are kept

  one_line_above : (l : ClassLives) (last : Option KeptClass) (a b : List ℕ) → IsLineAbove l last a → IsLineAbove l last b → a ≡ b
  one_line_above l None a b is other = is ∙ sym other
  one_line_above l (Some k) a b is other = same_Some a b (sym is ∙ other)

  pub no_part : (l : ClassLives) (names : List ℕ) (count : ℕ) → count ≡ 0 → IsPartKept l names count None
  no_part l names count e =
      subst (λ (k : ℕ). IsPartKept l names k None) (sym e)
      (record { within = omega arith; kept = tt; line = refl })

  last_split : (xs : List ℕ) (x : ℕ) → slice_get xs (length xs - 1) ≡ Some x → xs ≡ take (length xs - 1) xs ++ x ∷ []
  last_split xs x e =
      let i : ℕ = length xs - 1 in
      let lt : i < length xs = slice_get_within xs i x e in
      let all : length xs ≤ i + 1 = omega arith in
      sym (take_all (i + 1) xs all) ∙ take_more xs i x lt ∙ ap (λ y. take i xs ++ y ∷ []) (get_or_from_slice_get xs i x x e)

  pub whole_part : (l : ClassLives) (names : List ℕ) (place name : ℕ) → slice_get names (length names - 1) ≡ Some name → line_of l place ≡ Some names
      → IsPartKept l names (length names) (Some (record { place = place; name = name }))
  whole_part l names place name e is =
      record {
        within = omega arith;
        kept = (take (length names - 1) names, record { line = is ∙ ap Some (last_split names name e) });
        line = is ∙ ap Some (sym (take_all (length names) names (omega arith)));
      }

  pub part_in : (l : ClassLives) (names : List ℕ) (count : ℕ) (last : Option KeptClass) → count ≤ length names
      → IsPartKept l (take count names) (length (take count names)) last → IsPartKept l names count last
  part_in l names count last within is =
      record {
        within = within;
        kept = is.kept;
        line = subst (IsLineAbove l last) (take_all (length (take count names)) (take count names) (omega arith)) is.line;
      }

  module _ (l : ClassLives) (line : List Class) (place : ℕ) (c : Class) (there : slice_get line place ≡ Some c) (last : Option KeptClass)
      (part : IsPartKept l (names_of line) place last)
    where
      lt : place < length line
      lt = slice_get_within line place c there

      more : take (place + 1) line ≡ take place line ++ c ∷ []
      more = take_more line place c lt ∙ ap (λ x. take place line ++ x ∷ []) (get_or_from_slice_get line place c c there)

      more_names : take (place + 1) (names_of line) ≡ take place (names_of line) ++ c.name ∷ []
      more_names =
          take-map (λ (d : Class). d.name) (place + 1) line
          ∙ ap names_of more
          ∙ map-append (λ (d : Class). d.name) (take place line) (c ∷ [])
          ∙ ap (λ ns. ns ++ c.name ∷ []) (sym (take-map (λ (d : Class). d.name) place line))

      -- the next class stands below the part that is kept
      pub is_below : IsOfLine t line place c → IsLineBelow t l last c
      is_below of =
          record {
            named = of.named;
            line = λ names above.
                let same : names ≡ take place (names_of line) = one_line_above l last names (take place (names_of line)) above part.line in
                let is : classes_named t.classes names ++ c ∷ [] ≡ take (place + 1) line =
                ap (λ o. classes_named t.classes names ++ cons_option o []) (sym of.named)
                ∙ sym (filter_map-append (class_named t.classes) names (c.name ∷ []))
                ∙ ap (λ ns. classes_named t.classes (ns ++ c.name ∷ [])) same
                ∙ ap (classes_named t.classes) (sym more_names ∙ take-map (λ (d : Class). d.name) (place + 1) line)
                ∙ again_line t.types t.classes c.name (take (place + 1) line) of.is_line in
                subst (IsLineOf t.types t.classes c.name) (sym is) of.is_line;
          }

      -- with it one class more is kept
      pub part_more : (new : ClassLives) (kept : KeptClass) → kept.name ≡ c.name → IsClassAdded l last c.name new kept.place → IsPartKept new (names_of line) (place + 1) (Some kept)
      part_more new kept name added =
          let is : line_of new kept.place ≡ Some (take place (names_of line) ++ c.name ∷ []) = added.line (take place (names_of line)) part.line in
          record {
            within = omega (arith, lt, length-map line (λ (d : Class). d.name));
            kept = (take place (names_of line), record { line = is ∙ ap (λ k. Some (take place (names_of line) ++ k ∷ [])) (sym name) });
            line = is ∙ ap Some (sym more_names);
          }

  -- all classes are kept
  pub all_kept : (l : ClassLives) (line : List Class) (count : ℕ) (last : Option KeptClass) → slice_get line count ≡ None
      → IsPartKept l (names_of line) count last → IsPartKept l (names_of line) (length line) last
  all_kept l line count last none part = by (slice_get_cases line count).1
    where
      by : ((c : Class) × (count < length line) × (slice_get line count ≡ Some c) × (get_or line count c ≡ c)) ⊎ ((length line ≤ count) × (slice_get line count ≡ None))
          → IsPartKept l (names_of line) (length line) last
      by (inl (c, within, e, same)) = absurd cc
      by (inr past) =
          let at : count ≡ length line = omega (arith, past.0, part.within, length-map line (λ (d : Class). d.name)) in
          subst (λ k. IsPartKept l (names_of line) k last) at part

  -- the class that was asked for is the last one
  pub is_kept_class : (class : ℕ) (line : List Class) → IsSome (class_named t.classes class) → IsLineOf t.types t.classes class line
      → (l : ClassLives) (kept : KeptClass) → IsPartKept l (names_of line) (length line) (Some kept) → IsKeptClass t l class kept.place
  is_kept_class class line some is l kept part = of (class_named t.classes class) refl some
    where
      whole : line_of l kept.place ≡ Some (names_of line)
      whole = part.line ∙ ap Some (take_all (length line) (names_of line) (omega (arith, length-map line (λ (d : Class). d.name))))

      ends : (xs : List ℕ) (x : ℕ) → [] ≡ xs ++ x ∷ [] → ⊥
      ends [] x e = cc
      ends (y ∷ xs) x e = cc

      by : (d : Class) → class_named t.classes class ≡ Some d → (is.names ≡ []) ⊎ ((front : List Class) × (classes_named t.classes is.names ≡ front ++ d ∷ [])) → IsKeptClass t l class kept.place
      by d e (inl none) =
          let empty : names_of line ≡ [] = ap names_of (is.named ∙ ap (classes_named t.classes) none) in
          absurd (ends part.kept.0 kept.name (sym empty ∙ same_Some (names_of line) (part.kept.0 ++ kept.name ∷ []) (sym whole ∙ part.kept.1.line)))
      by d e (inr (front, split)) =
          let names : names_of line ≡ names_of front ++ class ∷ [] =
          ap names_of (is.named ∙ split) ∙ map-append (λ (c : Class). c.name) front (d ∷ []) ∙ ap (λ n. names_of front ++ n ∷ []) (named_so t.classes class d e) in
          record {
            above = names_of front;
            line = whole ∙ ap Some names;
            is_line =
                subst (IsLineOf t.types t.classes class)
                (sym (again_line t.types t.classes class line is) ∙ ap (classes_named t.classes) names) is;
          }

      of : (o : Option Class) → class_named t.classes class ≡ o → IsSome o → IsKeptClass t l class kept.place
      of None e h = absurd cc
      of (Some d) e h = by d e (last_of t.types t.classes class is.names is.lineage d e)
