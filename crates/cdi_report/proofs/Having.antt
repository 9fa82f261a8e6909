-- Lists whose items all have something, and what is made of such lists.
use Rattle.std.proofs.Common.{ℕ, ◌+◌, All, List, [], ◌∷◌, ◌++◌, map, Option, Some, None, IfSome, filter_map, flat_map, option_map, option_to_list}
use Rattle.std.proofs.lemmas.List.Elements.{recursion_from_All}
use Rattle.std.specs.List.{AllByRecursion, cons_option, enumerate_from}
use Rattle.cdi_report.proofs.Each.{each_append, each_part}

-- a list of items that all have it
pub record Having {X : Type 0} (P : X → Type 0) : Type 0 where
  pub items : List X
  pub each : AllByRecursion P items

-- one such list behind another
infixl 50 ◌and◌
abbrev pub ◌and◌ : {X : Type 0} {P : X → Type 0} → Having P → Having P → Having P
◌and◌ {P} a b = record { items = a.items ++ b.items; each = each_append P a.items b.items a.each b.each }

module _ {X : Type 0} (P : X → Type 0) where
  -- ---- an item, if there is one

  pub if_mapped : {Y : Type 0} (f : Y → X) (o : Option Y) → ((y : Y) → P (f y)) → IfSome (option_map f o) P
  if_mapped f None so = tt
  if_mapped f (Some y) so = so y

  pub each_option : (o : Option X) → IfSome o P → AllByRecursion P (option_to_list o)
  each_option None has = tt
  each_option (Some x) has = (has, tt)

  abbrev pub one_if : (o : Option X) → IfSome o P → Having P
  one_if o has = record { items = option_to_list o; each = each_option o has }

  -- ---- what is made of the items of another list

  module _ {Y : Type 0} (Q : Y → Type 0) where
    pub each_made : (f : Y → X) → ((y : Y) → Q y → P (f y)) → (ys : List Y) → AllByRecursion Q ys → AllByRecursion P (map f ys)
    each_made f so [] all = tt
    each_made f so (y ∷ ys) all = (so y all.0, each_made f so ys all.1)

    -- one for each
    abbrev pub made : (f : Y → X) → ((y : Y) → Q y → P (f y)) → (ys : List Y) → All Q ys → Having P
    made f so ys all = record { items = map f ys; each = each_made f so ys (recursion_from_All Q ys all) }

    pub each_given : (h : Y → Option X) → ((y : Y) → Q y → IfSome (h y) P) → (ys : List Y) → AllByRecursion Q ys → AllByRecursion P (filter_map h ys)
    each_given h so [] all = tt
    each_given h so (y ∷ ys) all = by (h y) (so y all.0) (each_given h so ys all.1)
      where
        by : (o : Option X) → IfSome o P → AllByRecursion P (filter_map h ys) → AllByRecursion P (cons_option o (filter_map h ys))
        by None has more = more
        by (Some x) has more = (has, more)

    -- at most one for each
    abbrev pub given : (h : Y → Option X) → ((y : Y) → Q y → IfSome (h y) P) → (ys : List Y) → All Q ys → Having P
    given h so ys all = record { items = filter_map h ys; each = each_given h so ys (recursion_from_All Q ys all) }

    -- a list for each
    abbrev pub parted : (f : Y → List X) → ((y : Y) → Q y → AllByRecursion P (f y)) → (ys : List Y) → All Q ys → Having P
    parted f so ys all = record { items = flat_map f ys; each = each_part P Q f ys so (recursion_from_All Q ys all) }

    pub each_numbered : (f : ℕ × Y → List X) → ((n : ℕ) (y : Y) → Q y → AllByRecursion P (f (n, y))) → (n : ℕ) (ys : List Y)
        → AllByRecursion Q ys → AllByRecursion P (flat_map f (enumerate_from n ys))
    each_numbered f so n [] all = tt
    each_numbered f so n (y ∷ ys) all =
        each_append P (f (n, y)) (flat_map f (enumerate_from (n + 1) ys)) (so n y all.0) (each_numbered f so (n + 1) ys all.1)

    -- a list for each with its number
    abbrev pub numbered : (f : ℕ × Y → List X) → ((n : ℕ) (y : Y) → Q y → AllByRecursion P (f (n, y))) → (ys : List Y) → All Q ys → Having P
    numbered f so ys all = record { items = flat_map f (enumerate_from 0 ys); each = each_numbered f so 0 ys (recursion_from_All Q ys all) }
