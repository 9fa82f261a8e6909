-- Pages of values, and the tables of the pages of maps.
use Rattle.std.specs.Prelude.{ℕ, ◌*◌, ◌/◌, ◌%◌, ◌≡◌, ◌<◌, ◌≤◌, List, [], Option, Some, None, length, map, slice_index, slice_index_or}
use Rattle.std.specs.List.{range_with_len}

-- the value at a place of a page, by the page's number
abbrev pub value_on : List (List (Option ℕ)) → ℕ → ℕ → Option ℕ
value_on pages page place = slice_index_or (slice_index_or pages page []) place None

-- the value at a key, where a table has the number of the page of each 32 keys in a row
abbrev pub value_at : List (List (Option ℕ)) → List ℕ → ℕ → Option ℕ
value_at pages table key = value_on pages (slice_index table (key / 32)) (key % 32)

-- the values at the keys of a table, in order
abbrev pub values_of : List (List (Option ℕ)) → List ℕ → List (Option ℕ)
values_of pages table = map (value_at pages table) (range_with_len 0 (length table * 32))

-- the table of a map, by its number; an empty one if there is no such map
abbrev pub table_of : List (List ℕ) → Option ℕ → List ℕ
table_of tables None = []
table_of tables (Some number) = slice_index_or tables number []

-- what holds of all tables: their pages are there, and page 0 has nothing
pub record AreTables (pages : List (List (Option ℕ))) (tables : List (List ℕ)) : Type 0 where
  pub in_range : (number i : ℕ) → slice_index (slice_index_or tables number []) i < length pages
  pub nothing : (place : ℕ) → value_on pages 0 place ≡ None

-- what holds of a table that is being made: pages below `shared` may be other tables' too, and each other one is at one index only
pub record IsDraft (pages : List (List (Option ℕ))) (table : List ℕ) (shared : ℕ) : Type 0 where
  pub below : shared ≤ length pages
  pub in_range : (i : ℕ) → slice_index table i < length pages
  pub own : (i j : ℕ) → shared ≤ slice_index table i
      → slice_index table i ≡ slice_index table j → i ≡ j

-- no page is lost, and those below `shared` stay as they are
pub record KeepsPages (old new : List (List (Option ℕ))) (shared : ℕ) : Type 0 where
  pub grown : length old ≤ length new
  pub same : (page place : ℕ) → page < shared → value_on new page place ≡ value_on old page place
