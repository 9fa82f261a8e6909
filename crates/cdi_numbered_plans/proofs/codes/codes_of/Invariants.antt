use Rattle.std.proofs.Common.{◌≡◌, map, take}
use Rattle.cdi_event_tables.specs.Ids.{id_in}
use Rattle.cdi_numbered_plans.specs.Machine.{machine_code}
use Rattle.cdi_numbered_plans.proofs.codes.codes_of.Given as goal

abbrev pub invariant-loop-code : goal.invariant-loop-code
invariant-loop-code l = l.all ≡ map (machine_code (id_in l.ids)) (take l.code-index l.codes)
