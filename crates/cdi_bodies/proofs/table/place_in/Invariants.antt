use Rattle.std.proofs.Common.{◌≡◌, ◌==◌, drop}
use Rattle.std.specs.List.{position_from}
use Rattle.cdi_bodies.specs.Gives.{place_of}
use Rattle.cdi_bodies.proofs.table.place_in.Given as goal

abbrev pub invariant-loop-number : goal.invariant-loop-number
invariant-loop-number g l = position_from (λ e. e.name == l.name) l.number (drop l.number l.entries) ≡ place_of l.entries l.name
