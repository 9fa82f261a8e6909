-- Between two commands nothing is running in a container.
use Rattle.std.specs.Prelude.{◌≡◌, List, None}
use Rattle.cdi_ledger.specs.Ledger.{Item}
use Rattle.cdi_machine.specs.Laws.{IsAtRest}
use Rattle.cdi_machine.specs.Runs.{Legal}
use Rattle.cdi_machine.specs.Tables.{Tables}
use Rattle.cdi_container.specs.History.{History}
use Rattle.cdi_container.specs.States.{ContainerState}

-- so in each state, unless it is halted
abbrev pub NothingRuns : Tables → Legal → Type 0
NothingRuns tables legal =
    (s : ContainerState) (h : List Item) → History tables legal (Unit {0}) s h → s.halted ≡ None
    → IsAtRest s.world
