-- How much of the line of a class is kept.
use Rattle.std.specs.Prelude.{ℕ, ◌≡◌, ◌+◌, ◌≤◌, List, length, map, take, Option, Some, slice_get}
use Rattle.cdi_bean_lives.specs.Lives.{IsKeptIfAny, IsLineAbove}
use Rattle.cdi_bean_lives.specs.declared.class.KeptClass.{KeptClass}
use Rattle.cdi_class_lives.specs.declared.lives.ClassLives.{ClassLives}
use Rattle.cdi_deployment.specs.declared.deployment.Class.{Class}
use Rattle.cdi_planner.specs.Tables.{PlanTables}
use Rattle.cdi_types.specs.Line.{IsLineOf, class_named}

abbrev pub names_of : List Class → List ℕ
names_of classes = map (λ (c : Class). c.name) classes

-- so many names of a line, from the top, are those of a line that is kept, the last one of which is that of this class
pub record IsPartKept (l : ClassLives) (names : List ℕ) (count : ℕ) (last : Option KeptClass)
    : Type 0 where
  pub within : count ≤ length names
  pub kept : IsKeptIfAny l last
  pub line : IsLineAbove l last (take count names)

-- a class at a place of a line is found by its name, and its line is the part of the line that ends with it
pub record IsOfLine (t : PlanTables) (line : List Class) (place : ℕ) (c : Class) : Type 0 where
  pub named : class_named t.classes c.name ≡ Some c
  pub is_line : IsLineOf t.types t.classes c.name (take (place + 1) line)

-- so is each
abbrev pub IsWholeLine : PlanTables → List Class → Type 0
IsWholeLine t line =
    (place : ℕ) (c : Class) → slice_get line place ≡ Some c → IsOfLine t line place c
