use Rattle.std.proofs.Common.{◌≡◌, map, take}
use Rattle.cdi_numbered_plans.specs.Numbered.{AsksNumbered, injection_by}
use Rattle.cdi_numbered_plans.proofs.injections.injections_of.Given as goal

-- those of the fields that were looked at
abbrev pub invariant-loop-field : goal.invariant-loop-field
invariant-loop-field l = (l.all ≡ map (injection_by l.numbering) (take l.field-index l.fields)) × AsksNumbered l.numbering l.lookup.now
