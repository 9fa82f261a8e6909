-- The machine: what each call does.
use Rattle.cdi_machine.specs.Programs.{Task, Given, Prog}
use Rattle.cdi_machine.specs.Contexts.{obtain}
use Rattle.cdi_machine.specs.Creation.{create, intercept}
use Rattle.cdi_machine.specs.Bodies.{run_rest, run_body, carry_on}
use Rattle.cdi_machine.specs.Destruction.{destroy, release, dismiss, clear}
use Rattle.cdi_machine.specs.Events.{fire, notify}

abbrev pub machine : Task → Prog Given
machine (Task.Obtain b) = obtain b
machine (Task.Create b owner) = create b owner
machine (Task.Intercept i n) = intercept i n
machine (Task.Rest chain) = run_rest chain
machine (Task.Body r) = run_body r
machine (Task.Acts r) = carry_on r
machine (Task.Destroy n) = destroy n
machine (Task.Release n) = release n
machine (Task.Fire class qualifiers v) = fire class qualifiers v
machine (Task.Notify observers v) = notify observers v
machine Task.Dismiss = dismiss
machine (Task.Clear c) = clear c
