-- What stands above the names of a list of declarations.
use Rattle.std.proofs.Common.{◌≡◌, ◌∙◌, ℕ, ◌+◌, ◌<◌, Bool, true, false, cond, ◌||◌, ◌&&◌, nat_eq, List, [], ◌∷◌, ◌++◌, length, get_or, drop, Option, Some, option_to_list, option_and_then, filter, refl, sym, ap, subst, ◌⊎◌, inl, inr, append_assoc, add-one, drop-cons, arith}
use Rattle.std.proofs.lemmas.Bool.{eqb-true, true≢false}
use Rattle.std.proofs.lemmas.List.Elements.{filter_map-append, Contains-append_left, Contains-append_right, Contains-append_cases}
use Rattle.std.specs.List.{Contains, filter_map, find, flat_map, list_any, list_all}
use Rattle.cdi_types.specs.declared.declaration.TypeDeclaration.{TypeDeclaration}
use Rattle.cdi_types.specs.Lineage.{superclass_of}
use Rattle.cdi_types.specs.Subtype.{direct_supertypes, supertypes_of, is_type, knows_supertypes, IsBelow}
use Rattle.cdi_types.proofs.Listed.{not_in_none, first_or_later}

-- where all elements pass, each does
passes : {X : Type 0} (p : X → Bool) (xs : List X) (x : X) → list_all p xs ≡ true → Contains xs x → p x ≡ true
passes p [] x all e = absurd (not_in_none [] x refl e)
passes p (y ∷ ys) x all e = by (passes p ys x) (p y) refl (first_or_later y ys x e) all
  where
    by : (list_all p ys ≡ true → Contains ys x → p x ≡ true) → (b : Bool) → p y ≡ b → (y ≡ x) ⊎ Contains ys x → (b && list_all p ys) ≡ true → p x ≡ true
    by rest true is (inl same) h = ap p (sym same) ∙ is
    by rest true is (inr later) h = rest h later
    by rest false is place h = absurd (true≢false (sym h))

-- where no declaration has the name, nothing stands above it
pub supertypes_of-none : (types : List TypeDeclaration) (name : ℕ) → list_any (λ d. nat_eq d.name name) types ≡ false → supertypes_of types name ≡ []
supertypes_of-none [] name e = refl
supertypes_of-none (d ∷ ds) name e = by (supertypes_of-none ds name) (nat_eq d.name name) e
  where
    by : (list_any (λ d. nat_eq d.name name) ds ≡ false → supertypes_of ds name ≡ []) → (b : Bool) → (b || list_any (λ d. nat_eq d.name name) ds) ≡ false
        → flat_map direct_supertypes (cond b (d ∷ filter (λ d. nat_eq d.name name) ds) (filter (λ d. nat_eq d.name name) ds)) ≡ []
    by later true h = absurd cc
    by later false h = later h

-- a loop over the declarations goes on: one that has the name adds what it names, and another nothing
module _ (place : ℕ → Option ℕ) (types : List TypeDeclaration) (name i : ℕ) (d : TypeDeclaration) (within : i < length types) (is : d ≡ get_or types i d) where
  front : drop i types ≡ d ∷ drop (i + 1) types
  front =
      let here : drop i types ≡ get_or types i d ∷ drop (i + 1) types = rw (add-one, drop-cons types i d) refl in
      here ∙ ap (λ x. x ∷ drop (i + 1) types) (sym is)

  by_test : (b : Bool) → nat_eq d.name name ≡ b → supertypes_of (drop i types) name ≡ flat_map direct_supertypes (cond b (d ∷ filter (λ d. nat_eq d.name name) (drop (i + 1) types)) (filter (λ d. nat_eq d.name name) (drop (i + 1) types)))
  by_test b e = ap (λ ds. supertypes_of ds name) front ∙ ap (λ b. flat_map direct_supertypes (cond b (d ∷ filter (λ d. nat_eq d.name name) (drop (i + 1) types)) (filter (λ d. nat_eq d.name name) (drop (i + 1) types)))) e

  pub adds_edges : (row all : List ℕ) → nat_eq d.name name ≡ true → row ++ filter_map place (supertypes_of (drop i types) name) ≡ all
      → (row ++ filter_map place (direct_supertypes d)) ++ filter_map place (supertypes_of (drop (i + 1) types) name) ≡ all
  adds_edges row all e so_far =
      append_assoc row (filter_map place (direct_supertypes d)) (filter_map place (supertypes_of (drop (i + 1) types) name))
      ∙ ap (λ r. row ++ r) (sym (ap (filter_map place) (by_test true e) ∙ filter_map-append place (direct_supertypes d) (supertypes_of (drop (i + 1) types) name)))
      ∙ so_far

  pub adds_none : (row all : List ℕ) → nat_eq d.name name ≡ false → row ++ filter_map place (supertypes_of (drop i types) name) ≡ all
      → row ++ filter_map place (supertypes_of (drop (i + 1) types) name) ≡ all
  adds_none row all e so_far = ap (λ r. row ++ filter_map place r) (sym (by_test false e)) ∙ so_far

-- what stands above a name is named by a declaration of it
pub declared_above : (types : List TypeDeclaration) (a b : ℕ) → Contains (supertypes_of types a) b → (d : TypeDeclaration) × Contains types d × (d.name ≡ a) × Contains (direct_supertypes d) b
declared_above [] a b e = absurd (not_in_none [] b refl e)
declared_above (d ∷ ds) a b e = by (declared_above ds a b) (nat_eq d.name a) refl e
  where
    Above : List TypeDeclaration → Type 0
    Above types = (d' : TypeDeclaration) × Contains types d' × (d'.name ≡ a) × Contains (direct_supertypes d') b

    later : Above ds → Above (d ∷ ds)
    later r = (r.0, Contains-append_right (d ∷ []) ds r.0 r.1, r.2, r.3)

    by : (Contains (supertypes_of ds a) b → Above ds) → (t : Bool) → nat_eq d.name a ≡ t → Contains (flat_map direct_supertypes (cond t (d ∷ filter (λ d. nat_eq d.name a) ds) (filter (λ d. nat_eq d.name a) ds))) b → Above (d ∷ ds)
    by rest true is h =
        elim (Contains-append_cases (direct_supertypes d) (supertypes_of ds a) b h) [
          | inl here ↦ (d, (0, omega arith, refl), eqb-true d.name a is, here)
          | inr there ↦ later (rest there)
        ]
    by rest false is h = later (rest h)

-- the superclass of a class stands above it
pub superclass_above : (types : List TypeDeclaration) (a b : ℕ) → superclass_of types a ≡ Some b → Contains (supertypes_of types a) b
superclass_above [] a b e = absurd cc
superclass_above (d ∷ ds) a b e = by (superclass_above ds a b) (nat_eq d.name a) e
  where
    p : TypeDeclaration → Bool
    p = λ d. nat_eq d.name a

    first : (o : Option ℕ) → o ≡ Some b → Contains (option_to_list o ++ d.interfaces) b
    first o is = let P : Option ℕ → Type 0 = λ x. Contains (option_to_list x ++ d.interfaces) b in subst P (sym is) (0, omega arith, refl)

    by : (superclass_of ds a ≡ Some b → Contains (supertypes_of ds a) b) → (t : Bool) → option_and_then (λ (d : TypeDeclaration). d.superclass) (cond t (Some d) (find p ds)) ≡ Some b
        → Contains (flat_map direct_supertypes (cond t (d ∷ filter p ds) (filter p ds))) b
    by later true h = Contains-append_left (direct_supertypes d) (supertypes_of ds a) b (first d.superclass h)
    by later false h = later h

-- where all supertypes are known, what stands above a name is a type
pub known_above : (types : List TypeDeclaration) → knows_supertypes types ≡ true → (a b : ℕ) → IsBelow types a b → is_type types b ≡ true
known_above types known a b (IsBelow.directly e) =
    let r = declared_above types a b e in
    passes (is_type types) (direct_supertypes r.0) b (passes (λ d. list_all (is_type types) (direct_supertypes d)) types r.0 known r.1) r.3
known_above types known a b (IsBelow.further {b = m} e s) = known_above types known m b s
