-- The steps of a walk in depth that are still to do, the next one last.
use Rattle.std.specs.Prelude.{ℕ, ◌≡◌, ◌<◌, List, Contains}
use Rattle.cdi_paths.specs.declared.finish_order.Step.{Step}
use Rattle.cdi_paths.specs.declared.finish_order.Step.TheVariants.{Enter}

-- a step into each of so many nodes, and no other
pub record HasEntries (count : ℕ) (steps : List Step) : Type 0 where
  pub all : (a : ℕ) → a < count → Contains steps (Enter a)
  pub only : (s : Step) → Contains steps s → (a : ℕ) × (a < count) × (s ≡ Enter a)
