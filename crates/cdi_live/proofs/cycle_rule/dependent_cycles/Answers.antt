use Rattle.cdi_live.specs.Cycles.{HasFlaggedCycle, HasDependentCycle}
use Rattle.cdi_live.specs.Settings.{setting_of}
use Rattle.cdi_live.proofs.Needy.{same_cycle, same_places}
use Rattle.cdi_live.proofs.cycle_rule.dependent_cycles.Goals as goal
use Rattle.cdi_problems.specs.Elements.{shown}

pub returns : goal.returns
returns c =
    let s = setting_of c.args.tables.now in
    let flags = c.in_ok-flags.flags in
    same_places (HasFlaggedCycle s.enabled flags) (HasDependentCycle s) (same_cycle s flags c.in_ok-flags.ensures) (shown c.args.elements.now) c.in_ok-places.places c.in_ok-places.ensures
