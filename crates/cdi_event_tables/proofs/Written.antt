-- The qualifiers of an event are written as the set of them, without Any.
use Rattle.std.proofs.Common.{ℕ, ◌≡◌, ◌∙◌, Bool, true, false, cond, List, [], ◌∷◌, map, filter, not, refl, sym, ap, Ordering}
use Rattle.std.proofs.lemmas.List.Kept.{IsStrictlySortedBy-filter}
use Rattle.std.specs.List.{Contains}
use Rattle.std.specs.declared.cmp.Ordering.TheVariants as orders
use Rattle.cdi_base.specs.declared.uses.Use.{Use}
use Rattle.cdi_bodies.specs.Events.{is_any}
use Rattle.cdi_quals.proofs.Orders.{qualifiers_apart, qualifiers_total}
use Rattle.cdi_quals.specs.Order.{compare_qualifiers}
use Rattle.cdi_quals.specs.OrderedSet.{IsOrderedSet}
use Rattle.cdi_quals.specs.Qualifiers.{full_use}
use Rattle.cdi_quals.specs.declared.qualifier.Qualifier.{Qualifier}
use Rattle.cdi_quals.specs.declared.types.QualifierType.{QualifierType}
use Rattle.cdi_event_tables.specs.Events.{is_not_any, ordered_qualifiers, placed_by, with_qualifier, written_use, written_uses}
use Rattle.cdi_event_tables.proofs.Among.{among_contains, among_filter, contains_among, of_filter}
use Rattle.cdi_event_tables.proofs.Inserted.{in_order, inserted, ordered_set, placed}
use Rattle.cdi_event_tables.proofs.OneSet.{one_set}

-- what stands in one list stands in the other, also among those that pass a test
kept : {X : Type 0} (test : X → Bool) (xs ys : List X) → ((x : X) → Contains xs x → Contains ys x) → (x : X) → Contains (filter test xs) x → Contains (filter test ys) x
kept test xs ys within x there =
    let found = of_filter test xs x (contains_among (filter test xs) x there) in
    among_contains (filter test ys) x (among_filter test ys x (contains_among ys x (within x (among_contains xs x found.0))) found.1)

-- some items of a set
some_items : {X : Type 0} {R : X → X → Ordering} (test : X → Bool) (given set : List X) → IsOrderedSet R given set → IsOrderedSet R (filter test given) (filter test set)
some_items {X} {R} test given set is =
    record {
      rising = IsStrictlySortedBy-filter R test set is.rising;
      same = λ x. (kept test set given (λ y. (is.same y).0) x, kept test given set (λ y. (is.same y).1) x);
    }

-- a use keeps its name when it gets all its members
named_alike : (types : List QualifierType) (uses : List Use) → filter is_not_any (map (full_use types) uses) ≡ map (full_use types) (filter (λ (u : Use). not (is_any u)) uses)
named_alike types [] = refl
named_alike types (u ∷ us) = by (not (is_any u)) (named_alike types us)
  where
    by : (b : Bool) → filter is_not_any (map (full_use types) us) ≡ map (full_use types) (filter (λ (v : Use). not (is_any v)) us)
        → cond b (full_use types u ∷ filter is_not_any (map (full_use types) us)) (filter is_not_any (map (full_use types) us))
        ≡ map (full_use types) (cond b (u ∷ filter (λ (v : Use). not (is_any v)) us) (filter (λ (v : Use). not (is_any v)) us))
    by true rec = ap (λ qs. full_use types u ∷ qs) rec
    by false rec = rec

module _ (names : List (List ℕ)) where
  abbrev R : Qualifier → Qualifier → Ordering
  R = compare_qualifiers names

  placed_so : (o : Ordering) (q r : Qualifier) (more rest : List Qualifier) → placed_by o q r more rest ≡ placed R o q r more rest
  placed_so orders.Less q r more rest = refl
  placed_so orders.Equal q r more rest = refl
  placed_so orders.Greater q r more rest = refl

  insertion : (q : Qualifier) (qs : List Qualifier) → with_qualifier names q qs ≡ inserted R q qs
  insertion q [] = refl
  insertion q (r ∷ more) =
      placed_so (R q r) q r more (with_qualifier names q more) ∙ ap (λ rest. placed R (R q r) q r more rest) (insertion q more)

  in_their_order : (qs : List Qualifier) → ordered_qualifiers names qs ≡ in_order R qs
  in_their_order [] = refl
  in_their_order (q ∷ more) = insertion q (ordered_qualifiers names more) ∙ ap (inserted R q) (in_their_order more)

  -- the set of some qualifiers is that which is computed
  pub ordered_are : (given set : List Qualifier) → IsOrderedSet R given set → ordered_qualifiers names given ≡ set
  ordered_are given set is =
      in_their_order given
      ∙ one_set (qualifiers_total names) (qualifiers_apart names) given (in_order R given) set (ordered_set R (qualifiers_total names) (qualifiers_apart names) given) is

  -- so what is left of it without Any is written
  pub written_are : (types : List QualifierType) (uses : List Use) (set : List Qualifier) → IsOrderedSet R (map (full_use types) uses) set
      → map written_use (filter is_not_any set) ≡ written_uses names types uses
  written_are types uses set is =
      ap (map written_use)
      (sym (ordered_are (filter is_not_any (map (full_use types) uses)) (filter is_not_any set) (some_items is_not_any (map (full_use types) uses) set is))
      ∙ ap (ordered_qualifiers names) (named_alike types uses))
