use Rattle.std.proofs.Common.{sym, subst}
use Rattle.cdi_frames.specs.Stacks.{KnownStack, TurnsTo}
use Rattle.cdi_run_tables.specs.Machine.{machine_tables}
use Rattle.cdi_runtime.specs.Standing.{RuntimeParts}
use Rattle.cdi_steps.proofs.Driving.{still_drives}
use Rattle.cdi_container.proofs.container.turn_of.Goals as goal

pub turn-requires-clause-known : goal.turn-requires-clause-known
turn-requires-clause-known g c =
    subst (λ (r : RuntimeParts _). KnownStack (machine_tables r.tables) r.world c.args.stack) (sym c.runtime.view_is) c.requires

pub invariant_of-runtime : goal.invariant_of-runtime
invariant_of-runtime g c =
    record { drives = still_drives c.turn.ensures.narrows c.runtime.invariant.drives; invoked = c.turn.ensures.invoked }

pub returns-clause-turned : goal.returns-clause-turned
returns-clause-turned g c =
    subst
    (λ (r : RuntimeParts _). TurnsTo (machine_tables r.tables) (g.D.Driver.legal r.driver) c.args.stack r.world c.turn.result c.turn.new.world)
    c.runtime.view_is c.turn.ensures.turned
