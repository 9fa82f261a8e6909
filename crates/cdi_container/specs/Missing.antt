-- In a container of an accepted deployment no command misses anything.
use Rattle.std.specs.Prelude.{◌≡◌, List, None}
use Rattle.cdi_ledger.specs.Ledger.{Item}
use Rattle.cdi_machine.specs.Commands.{Command, task}
use Rattle.cdi_machine.specs.Container.{refusal}
use Rattle.cdi_machine.specs.Runs.{Legal, Outcome, Runs}
use Rattle.cdi_machine.specs.Tables.{Tables}
use Rattle.cdi_machine.specs.World.{World, at_begin}
use Rattle.cdi_whole.specs.Missing.{NothingMissing}
use Rattle.cdi_whole.specs.Fits.{Fits}
use Rattle.cdi_container.specs.History.{History}
use Rattle.cdi_container.specs.States.{ContainerState, machine_state}

-- nothing is missing in what a command asks for that isn't refused in this state
abbrev pub MissesNone : Tables → Legal → Type 0 → ContainerState → Type 0
MissesNone tables legal Starved s =
    (c : Command) → refusal tables (machine_state s) c ≡ None
    → (o : Outcome) (v : World)
    → (r : Runs tables legal Starved (task c) (at_begin s.world) o v)
    → NothingMissing r

-- so in every container whose tables and bodies fit one another, as those of an accepted deployment do
abbrev pub NoneMissed : Tables → Legal → Type 0 → Type 0
NoneMissed tables legal Starved =
    Fits tables legal → (s : ContainerState) (h : List Item) → History tables legal (Unit {0}) s h
    → MissesNone tables legal Starved s
