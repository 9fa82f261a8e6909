-- The numbers of the instances that a context has, each with its bean.
use Rattle.std.specs.Prelude.{◌≡◌, ℕ, Bool, true, false, not, ◌==◌, ◌≤◌, ◌&&◌, ◌||◌, Option, Some, None, IsTrue}
use Rattle.std.specs.Ordering.{nat_cmp, on, then_cmp}
use Rattle.std.specs.BTreeSet.{contains}
use Rattle.std.specs.declared.cmp.Ordering.{Ordering}
use Rattle.cdi_base.specs.Maps.{Map, at}
use Rattle.cdi_contexts.specs.declared.context.Held.{Held}
use Rattle.cdi_contexts.specs.declared.context.Held.TheVariants.{Making, Is}
use Rattle.cdi_contexts.specs.declared.places.Place.{Place}
use Rattle.cdi_contexts.specs.declared.places.Places.{Places}

-- numbers are compared first
abbrev pub place_cmp : Place → Place → Ordering
place_cmp = then_cmp (on (λ p. p.number) nat_cmp) (on (λ p. p.bean) nat_cmp)

abbrev pub has : Places → Place → Bool
has s p = contains place_cmp s.all p

-- the entry is the instance of this number
abbrev pub has_number : ℕ → Option Held → Bool
has_number number None = false
has_number number (Some Making) = false
has_number number (Some (Is n)) = n == number

-- the place is that of the entry of this bean
abbrev pub is_place : ℕ → Option Held → Place → Bool
is_place bean entry p = (bean == p.bean) && has_number p.number entry

-- the number of what the bean has is there, if that is one
abbrev pub is_listed : ℕ → Held → Places → Bool
is_listed bean Making s = true
is_listed bean (Is n) s = has s (record { number = n; bean = bean })

-- the numbers of all entries, and no more
abbrev pub IsOutline : Map Held → Places → Type 0
IsOutline m s = (p : Place) → has s p ≡ has_number p.number (at m p.bean)

abbrev pub IsSame : Places → Places → Type 0
IsSame old new = (p : Place) → has new p ≡ has old p

abbrev pub Adds : ℕ → Held → Places → Places → Type 0
Adds bean held old new = (p : Place) → has new p ≡ (is_place bean (Some held) p || has old p)

abbrev pub Takes : ℕ → Option Held → Places → Places → Type 0
Takes bean entry old new = (p : Place) → has new p ≡ (not (is_place bean entry p) && has old p)

-- without the place of an entry that is replaced by another
abbrev pub Replaces : ℕ → Option Held → Held → Places → Places → Type 0
Replaces bean before held old new =
    (p : Place)
    → has new p ≡ ((not (is_place bean before p) || is_place bean (Some held) p) && has old p)

-- a place has this number, and none a greater one
abbrev pub IsLast : Places → Option ℕ → Type 0
IsLast s None = (p : Place) → has s p ≡ false
IsLast s (Some n) =
    ((bean : ℕ) × IsTrue (has s (record { number = n; bean = bean })))
    × ((p : Place) → IsTrue (has s p) → p.number ≤ n)
