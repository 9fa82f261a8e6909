-- What the last class of a line has of a class above, by the names that the classes below declare.
use Rattle.std.proofs.Common.{Bor, ◌-◌, drop, get_or, suc, add-one, length-drop, ◌≡◌, ◌∙◌, ℕ, ◌+◌, ◌<◌, ◌||◌, ◌&&◌, Bool, false, not, cond, nat_eq, List, [], ◌∷◌, ◌++◌, length, filter, map, refl, sym, ap, arith}
use Rattle.std.proofs.lemmas.Bool.Decides.{nat_tests}
use Rattle.std.proofs.lemmas.List.{length-map}
use Rattle.std.proofs.Math.Seq.{drop-cons}
use Rattle.std.specs.List.{list_any}
use Rattle.cdi_deployment.specs.declared.deployment.Class.{Class}
use Rattle.cdi_deployment.specs.declared.deployment.Member.{Member}
use Rattle.cdi_types.specs.LastClass.{is_had}
use Rattle.cdi_types.specs.Members.{is_inherited, declares, comes_down, parts_of, members_of}
use Rattle.cdi_deployment.specs.Member.{member_name}

-- tests that agree keep the same
pub same_filter : (p q : Member → Bool) → ((m : Member) → p m ≡ q m) → (ms : List Member) → filter p ms ≡ filter q ms
same_filter p q same [] = refl
same_filter p q same (m ∷ ms) = ap (λ b. cond b (m ∷ filter p ms) (filter p ms)) (same m) ∙ ap (λ ns. cond (q m) (m ∷ ns) ns) (same_filter p q same ms)

abbrev pub line : List (Bor Class) → List Class
line classes = map (λ c. c.now) classes

-- the members of a class that are had are those that come down
pub had : (is_below : ℕ → Bool) (below : List Class) → ((name : ℕ) → is_below name ≡ list_any (declares name) below)
    → (last : Bool) → last ≡ nat_eq (length below) 0 → (m : Member) → is_had is_below last m ≡ comes_down below m
had is_below [] knows last end m = ap (λ b. b || (is_inherited m && not (is_below (member_name m)))) end
had is_below (c ∷ cs) knows last end m =
    let e : last ≡ false = end ∙ grind (arith, nat_tests) in
    ap (λ b. b || (is_inherited m && not (is_below (member_name m)))) e ∙ ap (λ b. is_inherited m && not b) (knows (member_name m))

-- a loop from the last class of a line up looks at the next one
module _ (items : List (Bor Class)) (p i : ℕ) (class : Bor Class) (next : i + 1 ≡ p) (within : i < length items) (is : class ≡ get_or items i class) where
  abbrev pub below : List Class
  below = line (drop p items)

  pub first_of_line : line (drop i items) ≡ class.now ∷ below
  first_of_line =
      let rest : suc i ≡ p = sym (add-one i) ∙ next in
      ap line (drop-cons items i class within ∙ ap (λ c. c ∷ drop (suc i) items) (sym is) ∙ ap (λ j. class ∷ drop j items) rest)

  pub end : (n : ℕ) → n ≡ length items → nat_eq (i + 1) n ≡ nat_eq (length below) 0
  end n all =
      let len : length below ≡ length (drop p items) = length-map (drop p items) (λ (k : Bor Class). k.now) in
      let left : length (drop p items) ≡ length items - p = length-drop p items in
      grind (arith, nat_tests)

  -- its names are below the classes above it
  pub knows_more : (old new : ℕ → Bool) → ((name : ℕ) → old name ≡ list_any (declares name) below) → ((name : ℕ) → new name ≡ (declares name class.now || old name))
      → (name : ℕ) → new name ≡ list_any (declares name) (line (drop i items))
  knows_more old new knows more name =
      more name ∙ ap (λ b. declares name class.now || b) (knows name) ∙ sym (ap (list_any (declares name)) first_of_line)

  -- and it gives the members that it has
  pub finds_more : (is_below : ℕ → Bool) → ((name : ℕ) → is_below name ≡ list_any (declares name) below) → (n : ℕ) → n ≡ length items
      → (old new : List (Class × Member)) → old ≡ members_of below → new ≡ parts_of class.now (filter (is_had is_below (nat_eq (i + 1) n)) class.now.members) ++ old
      → new ≡ members_of (line (drop i items))
  finds_more is_below knows n all old new found more =
      more
      ∙ ap (λ ms. parts_of class.now ms ++ old) (same_filter _ _ (had is_below below knows (nat_eq (i + 1) n) (end n all)) class.now.members)
      ∙ ap (λ ps. parts_of class.now (filter (comes_down below) class.now.members) ++ ps) found
      ∙ sym (ap members_of first_of_line)
