use Rattle.std.proofs.Common.{◌≡◌, ◌++◌, drop}
use Rattle.cdi_script.specs.Value.{values_of}
use Rattle.cdi_script.proofs.value.values_of.Given as goal

abbrev pub invariant-loop-arg : goal.invariant-loop-arg
invariant-loop-arg l = l.values.items ++ values_of (drop l.arg-index l.args) l.fields l.view ≡ values_of l.args l.fields l.view
