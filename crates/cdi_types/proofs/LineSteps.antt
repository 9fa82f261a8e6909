-- The line of a name, by the way up from it.
use Rattle.std.proofs.Common.{Bor, ◌≡◌, ◌≢◌, ◌∙◌, ◌<◌, ◌+◌, ℕ, Bool, List, [], ◌∷◌, ◌++◌, map, reverse, slice_get, option_and_then, position, Option, Some, None, IfSome, MatchOption, refl, sym, ap, subst, inl, inr, arith}
use Rattle.std.proofs.lemmas.List.{append-nil, append_assoc, reverse-append}
use Rattle.std.proofs.lemmas.List.Elements.{filter_map-append}
use Rattle.std.specs.List.{find, filter_map, cons_option}
use Rattle.std.specs.Option.{option_copied}
use Rattle.cdi_deployment.specs.declared.deployment.Class.{Class}
use Rattle.cdi_types.specs.declared.declaration.TypeDeclaration.{TypeDeclaration}
use Rattle.cdi_types.specs.Line.{IsLineOf, class_named, place_named}
use Rattle.cdi_types.specs.Lineage.{IsLineage, superclass_of}
use Rattle.cdi_types.specs.Subtype.{object, IsAcyclic}
use Rattle.cdi_types.specs.Stops.{IsStop, IsStopAbove}
use Rattle.cdi_types.specs.Nodes.{place_of}
use Rattle.cdi_types.specs.declared.class_index.Stop.{Stop}
use Rattle.cdi_types.proofs.ClassPlaces.{found_at}
use Rattle.cdi_types.proofs.Listed.{cases_Option}
use Rattle.cdi_types.proofs.Places.{no_place}
use Rattle.cdi_types.proofs.Steps.{steps_of, steps-fall}

-- what is found by a test is what stands at its place
pub found_by_place : {X : Type 0} (p : X → Bool) (xs : List X) → find p xs ≡ option_and_then (slice_get xs) (position p xs)
found_by_place p xs =
    elim (cases_Option (position p xs)) [
      | inl none ↦ no_place p xs none ∙ ap (option_and_then (slice_get xs)) (sym none)
      | inr at ↦ found_at p xs at.0 at.1 ∙ ap (option_and_then (slice_get xs)) (sym at.1)
    ]

-- a line as the slices that were pushed make it: a class is pushed, or none is
abbrev pub line : List (Bor Class) → List Class
line classes = map (λ c. c.now) classes

-- a class is found, and stands above those that were found before
pub found_one : (found : List (Bor Class)) (c : Bor Class) → line (reverse (found ++ c ∷ [])) ≡ cons_option (option_copied (Some c)) [] ++ line (reverse found)
found_one found c = ap line (reverse-append found (c ∷ []))

-- how many names are left of the way up, at most
abbrev pub stops_left : List TypeDeclaration → Option Stop → ℕ
stops_left types None = 0
stops_left types (Some s) = steps_of types s.name + 1

module _ (types : List TypeDeclaration) (classes : List Class) (name : ℕ) where
  -- the classes above what was found: the line of the next name, or none
  abbrev pub IsAbove : Option Stop → List Class → Type 0
  IsAbove None above = above ≡ []
  IsAbove (Some s) above = IsLineOf types classes s.name above

  -- the way up from a name has come so far, and its classes were found, the lowest first
  pub record Rises (next : Option Stop) (found : List (Bor Class)) : Type 0 where
    pub stop : IfSome next (IsStop types classes)
    pub so_far : (above : List Class) → IsAbove next above → IsLineOf types classes name (above ++ line (reverse found))

  pub no_line : name ≡ object → IsLineOf types classes name []
  no_line is = let P : ℕ → Type 0 = λ a. IsLineage types a [] in record { names = []; lineage = subst P (sym is) IsLineage.above_all; named = refl }

  -- the topmost class
  pub top_line : name ≢ object → superclass_of types name ≡ None → (own : Option Class) → own ≡ class_named classes name → IsLineOf types classes name (cons_option own [])
  top_line other none own is = record { names = name ∷ []; lineage = IsLineage.top other none; named = ap (λ o. cons_option o []) is }

  -- a class below its superclass
  pub next_line : name ≢ object → (above : ℕ) → superclass_of types name ≡ Some above → (own : Option Class) → own ≡ class_named classes name
      → (line : List Class) → IsLineOf types classes above line → IsLineOf types classes name (line ++ cons_option own [])
  next_line other above extends own is line l = record {
    names = l.names ++ name ∷ [];
    lineage = IsLineage.next other extends l.lineage;
    named = ap (λ cs. cs ++ cons_option own []) l.named ∙ ap (λ o. filter_map (class_named classes) l.names ++ cons_option o []) is ∙ sym (filter_map-append (class_named classes) l.names (name ∷ []));
  }

-- ---- the way up

module _ (types : List TypeDeclaration) (classes : List Class) (name : ℕ) where
  pub start_rises : (place class_place : Option ℕ) → place ≡ place_of types name → class_place ≡ place_named classes name → (next : Option Stop)
      → MatchOption next (name ≡ object) (λ stop. (name ≢ object) × (stop ≡ record { name = name; place = place; class_place = class_place }))
      → Rises types classes name next []
  start_rises place class_place e f None is = record { stop = tt; so_far = λ above none. rw none (no_line types classes name is) }
  start_rises place class_place e f (Some stop) is = rw is.1 (record {
    stop = record { other = is.0; place = e; class_place = f };
    so_far = λ above l. rw (append-nil above) l;
  })

  -- the topmost class
  top : (stop : Stop) (own : Option Class) → stop.name ≢ object → own ≡ class_named classes stop.name → ((above : ℕ) → superclass_of types stop.name ≡ Some above → above ≡ object)
      → IsLineOf types classes stop.name (cons_option own [])
  top stop own other named above = by (superclass_of types stop.name) refl
    where
      by : (x : Option ℕ) → superclass_of types stop.name ≡ x → IsLineOf types classes stop.name (cons_option own [])
      by None e = top_line types classes stop.name other e own named
      by (Some a) e = next_line types classes stop.name other a e own named [] (no_line types classes a (above a e))

  pub rises_on : (stop : Stop) (found more : List (Bor Class)) (own : Option Class) (next : Option Stop) → Rises types classes name (Some stop) found
      → own ≡ class_named classes stop.name → line (reverse more) ≡ cons_option own [] ++ line (reverse found) → IsStopAbove types classes stop.name next
      → Rises types classes name next more
  rises_on stop found more own None r named joined above = record {
    stop = tt;
    so_far = λ rest none. rw (none, joined) (r.so_far (cons_option own []) (top stop own r.stop.other named above));
  }
  rises_on stop found more own (Some next) r named joined above = record {
    stop = above.1;
    so_far = λ rest l.
        rw (joined, ← append_assoc rest (cons_option own []) (line (reverse found)))
        (r.so_far (rest ++ cons_option own []) (next_line types classes stop.name r.stop.other next.name above.0 own named rest l));
  }

  pub rises_last : (found : List (Bor Class)) (next : Option Stop) → next ≡ None → Rises types classes name next found → IsLineOf types classes name (line (reverse found))
  rises_last found None e r = r.so_far [] refl
  rises_last found (Some stop) e r = absurd (cc)

pub stops_fall : (types : List TypeDeclaration) (classes : List Class) (stop : Stop) (next : Option Stop) → IsAcyclic types → IsStopAbove types classes stop.name next
    → stops_left types next < stops_left types (Some stop)
stops_fall types classes stop None acyclic above = omega arith
stops_fall types classes stop (Some next) acyclic above =
    let falls = steps-fall types acyclic stop.name next.name above.0 in
    omega (arith, falls)
