-- The values of maps by their pages, when a map is added.
use Rattle.std.proofs.Common.{◌≡◌, ◌∙◌, ℕ, ◌*◌, ◌/◌, ◌%◌, ◌<◌, ◌≤◌, cond, nat_eq, List, [], ◌∷◌, ◌++◌, length, map, get_or, Option, Some, None, refl, sym, ap, ◌⊎◌, inl, inr, arith}
use Rattle.std.proofs.lemmas.Bool.{cases_lt, cases_order}
use Rattle.std.proofs.lemmas.List.{get_or_append_left, get_or_push, get_or_past, get_or-map, length-map, length_push}
use Rattle.std.proofs.lemmas.List.FromFn.{get_or-map-range_with_len, length-map-range_with_len}
use Rattle.cdi_shared_maps.specs.declared.change.Change.{Change}
use Rattle.cdi_shared_maps.specs.Maps.{value_in, value_from, changed}
use Rattle.cdi_shared_maps.specs.Pages.{value_on, value_at, values_of, table_of, AreTables, KeepsPages}

-- the values of a table, each at its key
values_of-at : (pages : List (List (Option ℕ))) (table : List ℕ) (key : ℕ) → ((place : ℕ) → value_on pages 0 place ≡ None)
    → get_or (values_of pages table) key None ≡ value_at pages table key
values_of-at pages table key nothing = by (cases_lt key (length table * 32))
  where
    by : (key < length table * 32) ⊎ (length table * 32 ≤ key) → get_or (values_of pages table) key None ≡ value_at pages table key
    by (inl lt) = get_or-map-range_with_len (value_at pages table) 0 (length table * 32) key key None lt (omega arith)
    by (inr ge) =
        get_or_past (values_of pages table) key None (omega (arith, ge, length-map-range_with_len (value_at pages table) 0 (length table * 32)))
        ∙ sym (ap (λ (n : ℕ). value_on pages n (key % 32)) (get_or_past table (key / 32) 0 (omega (arith, ge))) ∙ nothing (key % 32))

-- the values of the maps of some tables
pub value_in-view : (pages : List (List (Option ℕ))) (tables : List (List ℕ)) (number key : ℕ) → AreTables pages tables
    → value_in (map (values_of pages) tables) number key ≡ value_at pages (get_or tables number []) key
value_in-view pages tables number key are = by (cases_lt number (length tables))
  where
    by : (number < length tables) ⊎ (length tables ≤ number)
        → value_in (map (values_of pages) tables) number key ≡ value_at pages (get_or tables number []) key
    by (inl lt) =
        ap (λ (m : List (Option ℕ)). get_or m key None) (get_or-map (values_of pages) tables number [] [] lt)
        ∙ values_of-at pages (get_or tables number []) key are.nothing
    by (inr ge) =
        ap (λ (m : List (Option ℕ)). get_or m key None) (get_or_past (map (values_of pages) tables) number [] (omega (arith, ge, length-map tables (values_of pages))))
        ∙ sym (ap (λ (t : List ℕ). value_at pages t key) (get_or_past tables number [] ge) ∙ are.nothing (key % 32))

-- the values of the table that a map begins with
pub value_from-view : (pages : List (List (Option ℕ))) (tables : List (List ℕ)) (origin : Option ℕ) (key : ℕ) → AreTables pages tables
    → value_at pages (table_of tables origin) key ≡ value_from (map (values_of pages) tables) origin key
value_from-view pages tables None key are = are.nothing (key % 32)
value_from-view pages tables (Some number) key are = sym (value_in-view pages tables number key are)

-- changes of two maps that have the same at a key
pub changed_same : (changes : List Change) (before other : ℕ → Option ℕ) (key : ℕ) → before key ≡ other key
    → changed changes before key ≡ changed changes other key
changed_same [] before other key e = e
changed_same (c ∷ cs) before other key e =
    ap (λ (o : Option ℕ). cond (nat_eq c.key key) c.value o) (changed_same cs before other key e)

-- the table of a map is a table with its pages
pub in_range_of : (pages : List (List (Option ℕ))) (tables : List (List ℕ)) (origin : Option ℕ) → AreTables pages tables
    → (i : ℕ) → get_or (table_of tables origin) i 0 < length pages
in_range_of pages tables None are i = omega (arith, are.in_range 0 0)
in_range_of pages tables (Some number) are i = are.in_range number i

-- tables whose pages are still there
pub AreTables-kept : (old new : List (List (Option ℕ))) (tables : List (List ℕ)) → AreTables old tables → KeepsPages old new (length old) → AreTables new tables
AreTables-kept old new tables are pages = record {
  in_range = λ number i. omega (arith, are.in_range number i, pages.grown);
  nothing = λ place. pages.same 0 place (omega (arith, are.in_range 0 0)) ∙ are.nothing place;
}

-- tables with one more
pub AreTables-push : (pages : List (List (Option ℕ))) (tables : List (List ℕ)) (table : List ℕ) → AreTables pages tables
    → ((i : ℕ) → get_or table i 0 < length pages) → AreTables pages (tables ++ table ∷ [])
AreTables-push pages tables table are range = record {
  in_range = λ number i. by number i (cases_order number (length tables));
  nothing = are.nothing;
}
  where
    by : (number i : ℕ) → (number ≡ length tables) ⊎ ((number < length tables) ⊎ (length tables < number))
        → get_or (get_or (tables ++ table ∷ []) number []) i 0 < length pages
    by number i (inl e) =
        let is : get_or (get_or (tables ++ table ∷ []) number []) i 0 ≡ get_or table i 0 = ap (λ (t : List ℕ). get_or t i 0) (get_or_push tables table [] number (sym e)) in
        omega (arith, is, range i)
    by number i (inr (inl lt)) =
        let is : get_or (get_or (tables ++ table ∷ []) number []) i 0 ≡ get_or (get_or tables number []) i 0 = ap (λ (t : List ℕ). get_or t i 0) (get_or_append_left tables (table ∷ []) [] number lt) in
        omega (arith, is, are.in_range number i)
    by number i (inr (inr gt)) =
        let is : get_or (get_or (tables ++ table ∷ []) number []) i 0 ≡ 0 = ap (λ (t : List ℕ). get_or t i 0) (get_or_past (tables ++ table ∷ []) number [] (omega (arith, gt, length_push tables table))) in
        omega (arith, is, range 0)

-- a map stays as it is when more pages come
pub value_in-kept : (old new : List (List (Option ℕ))) (tables : List (List ℕ)) (number key : ℕ) → AreTables old tables → KeepsPages old new (length old)
    → value_in (map (values_of new) tables) number key ≡ value_in (map (values_of old) tables) number key
value_in-kept old new tables number key are pages =
    value_in-view new tables number key (AreTables-kept old new tables are pages)
    ∙ pages.same (get_or (get_or tables number []) (key / 32) 0) (key % 32) (are.in_range number (key / 32))
    ∙ sym (value_in-view old tables number key are)

-- a map stays as it is when another one comes behind it
pub value_in-push : (pages : List (List (Option ℕ))) (tables : List (List ℕ)) (table : List ℕ) (number key : ℕ) → number < length tables
    → value_in (map (values_of pages) (tables ++ table ∷ [])) number key ≡ value_in (map (values_of pages) tables) number key
value_in-push pages tables table number key lt =
    ap (λ (m : List (Option ℕ)). get_or m key None) (get_or-map (values_of pages) (tables ++ table ∷ []) number [] [] (omega (arith, lt, length_push tables table)) ∙ ap (values_of pages) (get_or_append_left tables (table ∷ []) [] number lt) ∙ sym (get_or-map (values_of pages) tables number [] [] lt))

-- the values of the map that comes
pub value_in-pushed : (pages : List (List (Option ℕ))) (tables : List (List ℕ)) (table : List ℕ) (key : ℕ) → ((place : ℕ) → value_on pages 0 place ≡ None)
    → value_in (map (values_of pages) (tables ++ table ∷ [])) (length tables) key ≡ value_at pages table key
value_in-pushed pages tables table key nothing =
    ap (λ (m : List (Option ℕ)). get_or m key None) (get_or-map (values_of pages) (tables ++ table ∷ []) (length tables) [] [] (omega (arith, length_push tables table)) ∙ ap (values_of pages) (get_or_push tables table [] (length tables) refl))
    ∙ values_of-at pages table key nothing
