use Rattle.std.proofs.Common.{◌≡◌, ◌++◌, drop}
use Rattle.cdi_bean_check.specs.Qualifiers.{full_uses}
use Rattle.cdi_beans.proofs.uses.add_uses.Given as goal

abbrev pub invariant-loop-written : goal.invariant-loop-written
invariant-loop-written l = l.full ++ full_uses l.types (drop l.written-index l.uses) ≡ l.initial.full ++ full_uses l.types l.uses
