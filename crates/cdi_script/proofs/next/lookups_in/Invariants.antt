use Rattle.std.proofs.Common.{◌≡◌, ◌+◌, ◌≤◌, drop}
use Rattle.cdi_script.specs.Next.{lookups_in}
use Rattle.cdi_script.proofs.next.lookups_in.Given as goal

abbrev pub invariant-loop-step : goal.invariant-loop-step
invariant-loop-step l = record { counted : l.count + lookups_in (drop l.step-index l.steps) ≡ lookups_in l.steps; within : l.count ≤ l.step-index }
