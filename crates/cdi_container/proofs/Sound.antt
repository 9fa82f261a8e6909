-- In a container whose tables and bodies fit one another, and whose tables tell the bodies of a destruction from all others, all is
-- sound.
use Rattle.cdi_whole.proofs.Beginning.{begin_once, begin_once_if_short}
use Rattle.cdi_ledger.proofs.Ledgered as ledger
use Rattle.cdi_ledger.specs.Callbacks.{FirstsStandOnce, PlacesOfBodiesAreApart}
use Rattle.cdi_machine.proofs.Rests as machine
use Rattle.cdi_machine.specs.Runs.{Legal}
use Rattle.cdi_run_tables.specs.Machine.{machine_tables}
use Rattle.cdi_run_tables.specs.declared.tables.RunTables.{RunTables}
use Rattle.cdi_whole.proofs.Presence.{misses_nothing, throws_with_text}
use Rattle.cdi_whole.specs.Fits.{Fits}
use Rattle.cdi_container.specs.Sound.{IsSound}
use Rattle.cdi_container.proofs.History.{begins_once, keeps_order}
use Rattle.cdi_container.proofs.Missing.{none_missed}
use Rattle.cdi_container.proofs.Resting.{nothing_runs}
use Rattle.cdi_container.proofs.Thrown.{names_thrown}

pub sound : (t : RunTables) (legal : Legal) → Fits (machine_tables t) legal → PlacesOfBodiesAreApart (machine_tables t) → FirstsStandOnce (machine_tables t) → IsSound t legal
sound t legal fits apart once =
    let T = machine_tables t in
    record {
      complete = λ s h history. (
        none_missed T legal ⊥ (misses_nothing T legal ⊥) fits s h history,
        none_missed T legal (Unit {0}) (misses_nothing T legal (Unit {0})) fits s h history,
      );
      order = keeps_order T legal (ledger.keeps_order T legal) (ledger.if_short T legal);
      farewells = begins_once T legal (begin_once T legal fits apart once) (begin_once_if_short T legal fits apart once);
      rests = nothing_runs T legal (machine.rests T legal);
      names = names_thrown t legal (throws_with_text T legal ⊥) fits;
    }
