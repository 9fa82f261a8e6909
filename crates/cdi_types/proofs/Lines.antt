-- The line of a name, and what a class inherits.
use Rattle.std.proofs.Common.{◌≡◌, ◌∙◌, ◌||◌, ◌&&◌, ℕ, Bool, true, false, not, cond, List, [], ◌∷◌, ◌++◌, filter, Some, refl, sym, ap, append_assoc, append-nil}
use Rattle.std.proofs.lemmas.List.Elements.{filter-append}
use Rattle.std.proofs.lemmas.List.Folds.{list_any-append}
use Rattle.std.specs.List.{list_any, filter_map}
use Rattle.cdi_deployment.specs.declared.deployment.Class.{Class}
use Rattle.cdi_deployment.specs.declared.deployment.Member.{Member}
use Rattle.cdi_types.specs.declared.declaration.TypeDeclaration.{TypeDeclaration}
use Rattle.cdi_types.specs.Lineage.{IsLineage, superclass_of}
use Rattle.cdi_types.specs.Line.{IsLineOf, class_named}
use Rattle.cdi_types.specs.Members.{is_inherited, declares, comes_down, parts_of, members_of, inherits}
use Rattle.cdi_deployment.specs.Member.{member_name}

one_name : (a b : ℕ) → Some a ≡ Some b → a ≡ b
one_name a b e = cc

one_lineage : (types : List TypeDeclaration) (a b : ℕ) → a ≡ b → (names others : List ℕ) → IsLineage types a names → IsLineage types b others → names ≡ others
one_lineage types a b e names others IsLineage.above_all IsLineage.above_all = refl
one_lineage types a b e names others IsLineage.above_all (IsLineage.top below none) = absurd (below (sym e))
one_lineage types a b e names others IsLineage.above_all (IsLineage.next below some rest) = absurd (below (sym e))
one_lineage types a b e names others (IsLineage.top below none) IsLineage.above_all = absurd (below e)
one_lineage types a b e names others (IsLineage.top below none) (IsLineage.top below' none') = ap (λ x. x ∷ []) e
one_lineage types a b e names others (IsLineage.top below none) (IsLineage.next below' some rest) = absurd cc
one_lineage types a b e names others (IsLineage.next below some rest) IsLineage.above_all = absurd (below e)
one_lineage types a b e names others (IsLineage.next below some rest) (IsLineage.top below' none) = absurd cc
one_lineage types a b e names others (IsLineage.next {b = x} {names = xs} below some rest) (IsLineage.next {b = y} {names = ys} below' some' rest') =
    let above : x ≡ y = one_name x y (sym some ∙ ap (superclass_of types) e ∙ some') in
    ap (λ ns. ns ++ a ∷ []) (one_lineage types x y above xs ys rest rest') ∙ ap (λ n. ys ++ n ∷ []) e

pub one_line : (types : List TypeDeclaration) (classes : List Class) (name : ℕ) (line other : List Class) → IsLineOf types classes name line → IsLineOf types classes name other → line ≡ other
one_line types classes name line other a b = a.named ∙ ap (filter_map (class_named classes)) (one_lineage types name name refl a.names b.names a.lineage b.lineage) ∙ sym b.named

module _ (class : Class) where
  any_push : (p : Class → Bool) (cs : List Class) → list_any p (cs ++ class ∷ []) ≡ (list_any p cs || (p class || false))
  any_push p cs = list_any-append p cs (class ∷ [])

  -- past a class more
  past_more : (cs : List Class) (owner : Class) (m : Member) → comes_down (cs ++ class ∷ []) m ≡ (comes_down cs m && inherits class (owner, m))
  past_more [] owner m = by (is_inherited m) (declares (member_name m) class)
    where
      by : (i e : Bool) → (i && not (e || false)) ≡ (i && not e)
      by true true = refl
      by true false = refl
      by false e = refl
  past_more (c ∷ cs) owner m =
      ap (λ b. is_inherited m && not b) (any_push (declares (member_name m)) (c ∷ cs))
      ∙ by (is_inherited m) (list_any (declares (member_name m)) (c ∷ cs)) (declares (member_name m) class)
    where
      by : (i d e : Bool) → (i && not (d || (e || false))) ≡ ((i && not d) && (i && not e))
      by true true e = refl
      by true false true = refl
      by true false false = refl
      by false d e = refl

  passed : (cs : List Class) (owner : Class) (ms : List Member) → parts_of owner (filter (comes_down (cs ++ class ∷ [])) ms) ≡ filter (inherits class) (parts_of owner (filter (comes_down cs) ms))
  passed cs owner [] = refl
  passed cs owner (m ∷ ms) =
      ap (λ b. parts_of owner (cond b (m ∷ filter (comes_down (cs ++ class ∷ [])) ms) (filter (comes_down (cs ++ class ∷ [])) ms))) (past_more cs owner m)
      ∙ by (passed cs owner ms) (comes_down cs m) (inherits class (owner, m)) refl
    where
      by : parts_of owner (filter (comes_down (cs ++ class ∷ [])) ms) ≡ filter (inherits class) (parts_of owner (filter (comes_down cs) ms))
          → (d i : Bool) → inherits class (owner, m) ≡ i
          → parts_of owner (cond (d && i) (m ∷ filter (comes_down (cs ++ class ∷ [])) ms) (filter (comes_down (cs ++ class ∷ [])) ms))
          ≡ filter (inherits class) (parts_of owner (cond d (m ∷ filter (comes_down cs) ms) (filter (comes_down cs) ms)))
      by rest true true e =
          ap (λ ps. (owner, m) ∷ ps) rest
          ∙ sym (ap (λ b. cond b ((owner, m) ∷ filter (inherits class) (parts_of owner (filter (comes_down cs) ms))) (filter (inherits class) (parts_of owner (filter (comes_down cs) ms)))) e)
      by rest true false e =
          rest ∙ sym (ap (λ b. cond b ((owner, m) ∷ filter (inherits class) (parts_of owner (filter (comes_down cs) ms))) (filter (inherits class) (parts_of owner (filter (comes_down cs) ms)))) e)
      by rest false i e = rest

  all_come_down : (ms : List Member) → filter (comes_down []) ms ≡ ms
  all_come_down [] = refl
  all_come_down (m ∷ ms) = ap (λ rest. m ∷ rest) (all_come_down ms)

  pub inherited : (line : List Class) → members_of (line ++ class ∷ []) ≡ filter (inherits class) (members_of line) ++ parts_of class class.members
  inherited [] = append-nil (parts_of class (filter (comes_down []) class.members)) ∙ ap (parts_of class) (all_come_down class.members)
  inherited (c ∷ cs) =
      let first = parts_of c (filter (comes_down cs) c.members) in
      ap (λ ps. ps ++ members_of (cs ++ class ∷ [])) (passed cs c c.members)
      ∙ ap (λ ps. filter (inherits class) first ++ ps) (inherited cs)
      ∙ sym (append_assoc (filter (inherits class) first) (filter (inherits class) (members_of cs)) (parts_of class class.members))
      ∙ ap (λ ps. ps ++ parts_of class class.members) (sym (filter-append (inherits class) first (members_of cs)))
