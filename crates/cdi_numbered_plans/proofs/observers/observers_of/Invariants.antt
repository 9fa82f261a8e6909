use Rattle.std.proofs.Common.{◌≡◌, map, take}
use Rattle.cdi_numbered_plans.specs.Numbered.{AsksNumbered, observer_by}
use Rattle.cdi_numbered_plans.proofs.observers.observers_of.Given as goal

-- those of the observers that were looked at
abbrev pub invariant-loop-observer : goal.invariant-loop-observer
invariant-loop-observer l = (l.all ≡ map (observer_by l.numbering) (take l.observer-index l.observers)) × AsksNumbered l.numbering l.lookup.now
