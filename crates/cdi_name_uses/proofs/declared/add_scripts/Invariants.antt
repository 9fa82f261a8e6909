use Rattle.std.proofs.Common.{◌≡◌, ◌++◌, take}
use Rattle.cdi_name_uses.specs.Groups as spec
use Rattle.cdi_name_uses.proofs.declared.add_scripts.Given as goal

abbrev pub invariant-loop-script : goal.invariant-loop-script
invariant-loop-script l = l.names ≡ l.initial.names ++ spec.names_of_scripts (take l.script-index l.scripts)
