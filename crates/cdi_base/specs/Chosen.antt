-- Which candidate is chosen, and what is set if nothing is said.
use Rattle.std.specs.Prelude.{ℕ, ◌≡◌, ◌-◌, false}
use Rattle.cdi_base.specs.declared.settings.Order.{Order}
use Rattle.cdi_base.specs.declared.settings.Order.TheVariants as orders
use Rattle.cdi_base.specs.declared.settings.Settings.{Settings}

-- of so many candidates
abbrev pub chosen : Order → ℕ → ℕ
chosen orders.First count = 0
chosen orders.Last count = count - 1

-- 32 levels and 100,000 entries, the first candidate, and no trace
pub record IsDefault (s : Settings) : Type 0 where
  pub depth : s.limits.depth ≡ 32
  pub ticks : s.limits.ticks ≡ 100000
  pub order : s.order ≡ orders.First
  pub shows_trace : s.shows_trace ≡ false
