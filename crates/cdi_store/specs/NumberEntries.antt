-- The entries of an index from the numbers of instances to their slots.
use Rattle.std.specs.Prelude.{◌≡◌, ◌≢◌, ℕ, ◌<◌, List, [], ◌∷◌, length, Option, is_some, option_map, filter, MatchOption}
use Rattle.std.specs.List.{All, AllByRecursion, HoldsAt, filter_map}
use Rattle.cdi_base.specs.Maps.{Map}
use Rattle.cdi_store.specs.declared.number_index.Entry.{Entry}

-- the number and the slot of an entry whose instance lives
abbrev pub pair_of : Entry → Option (ℕ × ℕ)
pair_of e = option_map (λ slot. (e.number, slot)) e.slot

-- the numbers of the live instances, with their slots
abbrev pub pairs_in : List Entry → Map ℕ
pairs_in entries = filter_map pair_of entries

-- the entries whose instances live
abbrev pub live_ones : List Entry → List Entry
live_ones entries = filter (λ e. is_some e.slot) entries

-- each number is below this one
abbrev pub AreAllBelow : ℕ → List Entry → Type 0
AreAllBelow n entries = AllByRecursion (λ e. e.number < n) entries

-- each number is below the later ones
abbrev pub AreAscending : List Entry → Type 0
AreAscending [] = Unit {0}
AreAscending (e ∷ more) = AllByRecursion (λ f. e.number < f.number) more × AreAscending more

-- what is true of every index
pub record AreCounted (entries : List Entry) (live : ℕ) : Type 0 where
  pub ascending : AreAscending entries
  pub count : live ≡ length (pairs_in entries)

-- the place has the entry of a number; with no place there is no such entry
abbrev pub IsPlaceOf : ℕ → List Entry → Option ℕ → Type 0
IsPlaceOf n entries place =
    MatchOption place (All (λ e. e.number ≢ n) entries)
    (λ k. (k < length entries) × HoldsAt (λ e. e.number ≡ n) entries k)
