-- What stands above a name, and the paths between the places of declarations.
use Rattle.std.proofs.Common.{◌≡◌, ◌∙◌, ◌↔◌, ℕ, ◌<◌, ◌||◌, Bool, true, false, cond, nat_eq, List, [], ◌∷◌, length, get_or, Option, Some, None, IsTrue, refl, sym, ap, subst, inl, inr, arith}
use Rattle.std.proofs.lemmas.Bool.{eqb-true}
use Rattle.std.proofs.lemmas.List.{get_or-map, length-map}
use Rattle.std.proofs.lemmas.List.Elements.{All-map, All-weaker, All-contains_itself}
use Rattle.std.proofs.lemmas.List.Quantifiers.{position-Some}
use Rattle.std.specs.List.{All, Contains, list_any, filter_map, find}
use Rattle.cdi_paths.specs.Graph.{IsGraph, Path, ProperPath, targets_of}
use Rattle.cdi_types.specs.declared.declaration.TypeDeclaration.{TypeDeclaration}
use Rattle.cdi_types.specs.Nodes.{place_of, graph_of}
use Rattle.cdi_types.specs.Subtype.{is_declared, supertypes_of, IsBelow}
use Rattle.cdi_types.proofs.Places.{no_place}
use Rattle.cdi_types.proofs.Listed.{cases_Option, not_in_none, filter_map-contains, filter_map-from}
use Rattle.cdi_types.proofs.Supertypes.{supertypes_of-none}

none_passes : {X : Type 0} (p : X → Bool) (xs : List X) → find p xs ≡ None → list_any p xs ≡ false
none_passes p [] e = refl
none_passes p (x ∷ xs) e = by (none_passes p xs) (p x) e
  where
    by : (find p xs ≡ None → list_any p xs ≡ false) → (b : Bool) → cond b (Some x) (find p xs) ≡ None → (b || list_any p xs) ≡ false
    by later true h = absurd cc
    by later false h = later h

-- a name without a place is not declared
pub not_declared : (types : List TypeDeclaration) (a : ℕ) → place_of types a ≡ None → is_declared types a ≡ false
not_declared types a e = none_passes (λ d. nat_eq d.name a) types (no_place (λ d. nat_eq d.name a) types e)

module _ (types : List TypeDeclaration) (place : ℕ → Option ℕ) (is : (name : ℕ) → place name ≡ place_of types name) where
  nothing : TypeDeclaration
  nothing = record { name = 0; superclass = None; interfaces = [] }

  -- what stands at the place of a name
  at_place : (a i : ℕ) → place a ≡ Some i → (i < length types) × ((get_or types i nothing).name ≡ a)
  at_place a i h =
      let s = position-Some (λ d. nat_eq d.name a) types i nothing (sym (is a) ∙ h) in
      (s.0, eqb-true _ _ s.1)

  targets-at : (a i : ℕ) → place a ≡ Some i → targets_of (graph_of place types) i ≡ filter_map place (supertypes_of types a)
  targets-at a i h =
      let s = at_place a i h in
      get_or-map (λ d. filter_map place (supertypes_of types d.name)) types i nothing [] s.0 ∙ ap (λ name. filter_map place (supertypes_of types name)) s.1

  pub nothing_above : (a : ℕ) → place a ≡ None → supertypes_of types a ≡ []
  nothing_above a h = supertypes_of-none types a (not_declared types a (sym (is a) ∙ h))

  one_name : (a b i : ℕ) → place a ≡ Some i → place b ≡ Some i → a ≡ b
  one_name a b i x y = sym (at_place a i x).1 ∙ (at_place b i y).1

  -- each edge leads to a place
  pub is_graph : IsGraph (graph_of place types)
  is_graph =
      let n = length (graph_of place types) in
      let row : TypeDeclaration → List ℕ = λ d. filter_map place (supertypes_of types d.name) in
      let within : (d : TypeDeclaration) (k : ℕ) → Contains (row d) k → k < n = λ d k e. (
      let r = filter_map-from place (supertypes_of types d.name) k e in
      let lt : k < length types = (at_place r.0 k r.2).0 in
      omega (arith, length-map types row)
      ) in
      All-map (All (λ k. k < n)) row types (λ i e lt. All-weaker (Contains (row (get_or types i e))) (λ k. k < n) (within (get_or types i e)) (row (get_or types i e)) (All-contains_itself (row (get_or types i e))))

  pub edge_to : (a i m k : ℕ) → place a ≡ Some i → Contains (supertypes_of types a) m → place m ≡ Some k → Contains (targets_of (graph_of place types) i) k
  edge_to a i m k x e y =
      let P : List ℕ → Type 0 = λ ts. Contains ts k in
      subst P (sym (targets-at a i x)) (filter_map-contains place (supertypes_of types a) m k e y)

  some_same : (i j : ℕ) → Some i ≡ Some j → i ≡ j
  some_same i j e = cc

  -- a name without a place is below none
  pub not_below : (a b : ℕ) → place a ≡ None → IsBelow types a b → ⊥
  not_below a b x (IsBelow.directly e) = not_in_none (supertypes_of types a) b (nothing_above a x) e
  not_below a b x (IsBelow.further {b = m} e s) = not_in_none (supertypes_of types a) m (nothing_above a x) e

  to_path : (i j : ℕ) → ProperPath (graph_of place types) i j → Path (graph_of place types) i j
  to_path i j p = Path.step p.1 p.2

  pub path_from_below : (a b i j : ℕ) → place a ≡ Some i → place b ≡ Some j → IsBelow types a b → ProperPath (graph_of place types) i j
  path_from_below a b i j x y (IsBelow.directly e) = (j, edge_to a i b j x e y, Path.here)
  path_from_below a b i j x y (IsBelow.further {b = m} e s) =
      elim (cases_Option (place m)) [
        | inl none ↦ absurd (not_below m b none s)
        | inr some ↦ (some.0, edge_to a i m some.0 x e some.1, to_path some.0 j (path_from_below m b some.0 j some.1 y s))
      ]

  below_from_edge : (a b i k j : ℕ) → place a ≡ Some i → place b ≡ Some j → Contains (targets_of (graph_of place types) i) k → Path (graph_of place types) k j → IsBelow types a b
  below_from_edge a b i k j x y e Path.here =
      let P : List ℕ → Type 0 = λ ts. Contains ts k in
      let r = filter_map-from place (supertypes_of types a) k (subst P (targets-at a i x) e) in
      let Q : ℕ → Type 0 = λ m. IsBelow types a m in
      subst Q (one_name r.0 b k r.2 y) (IsBelow.directly r.1)
  below_from_edge a b i k j x y e (Path.step {b = m} f p) =
      let P : List ℕ → Type 0 = λ ts. Contains ts k in
      let r = filter_map-from place (supertypes_of types a) k (subst P (targets-at a i x) e) in
      IsBelow.further r.1 (below_from_edge r.0 b k m j r.2 y f p)

  pub below_from_path : (a b i j : ℕ) → place a ≡ Some i → place b ≡ Some j → ProperPath (graph_of place types) i j → IsBelow types a b
  below_from_path a b i j x y p = below_from_edge a b i p.0 j x y p.1 p.2

  -- what the table of the graph answers at the places of two names
  pub below_told : (graph : List (List ℕ)) → graph ≡ graph_of place types → (r : Bool) (a b i j : ℕ) → Some i ≡ place a → Some j ≡ place b → IsTrue r ↔ ProperPath graph i j → IsTrue r ↔ IsBelow types a b
  below_told graph same r a b i j x y told =
      let P : List (List ℕ) → Type 0 = λ g. IsTrue r ↔ ProperPath g i j in
      let t : IsTrue r ↔ ProperPath (graph_of place types) i j = subst P same told in
      (λ h. below_from_path a b i j (sym x) (sym y) (t.0 h), λ s. t.1 (path_from_below a b i j (sym x) (sym y) s))
