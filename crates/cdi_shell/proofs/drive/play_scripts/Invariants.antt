use Rattle.std.proofs.Common.{◌≡◌, ◌+◌, ◌≤◌, length, List}
use Rattle.std.specs.Prelude.{fold}
use Rattle.cdi_bodies.specs.Table.{entries_of}
use Rattle.cdi_prepare.specs.declared.scripts.NamedScript.{NamedScript}
use Rattle.cdi_prepare.specs.Scripts.{added, registered}
use Rattle.cdi_prepare.proofs.Holding.{AreBodiesOf}
use Rattle.cdi_shell.proofs.drive.play_scripts.Given as goal

abbrev pub invariant-loop-named : goal.invariant-loop-named
invariant-loop-named g l =
    (found : List NamedScript) × AreBodiesOf (entries_of l.bodies) found × (fold added found l.named-iterator.rest.items ≡ registered l.fn.prepared.scripts.items) × (length found + length l.named-iterator.rest.items ≤ 4096)
