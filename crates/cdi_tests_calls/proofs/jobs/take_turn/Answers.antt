use Rattle.std.proofs.Common.{subst, sym}
use Rattle.cdi_frames.specs.Stacks.{KnownStack}
use Rattle.cdi_run_tables.specs.Machine.{machine_tables}
use Rattle.cdi_runtime.specs.Standing.{RuntimeParts}
use Rattle.cdi_steps.proofs.Driving.{still_drives}
use Rattle.cdi_tests_calls.proofs.jobs.take_turn.Goals as goal

pub invariant_of-runtime : goal.invariant_of-runtime
invariant_of-runtime g c =
    record { drives = still_drives c.turn.ensures.narrows c.runtime.invariant.drives; invoked = c.turn.ensures.invoked }

pub turn-requires-clause-known : goal.turn-requires-clause-known
turn-requires-clause-known g c =
    subst (λ (r : RuntimeParts _). KnownStack (machine_tables r.tables) r.world c.args.stack) (sym c.runtime.view_is) c.requires.known
