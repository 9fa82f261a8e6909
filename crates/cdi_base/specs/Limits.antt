-- Which limits may be asked for.
use Rattle.std.specs.Prelude.{ℕ, ◌≤◌}

abbrev pub AreInRange : ℕ → ℕ → Type 0
AreInRange depth ticks = (1 ≤ depth) × (depth ≤ 1024) × (1 ≤ ticks) × (ticks ≤ 100000)
