use Rattle.std.proofs.Common.{◌≡◌, drop}
use Rattle.cdi_quals.specs.Qualifiers.{has_all}
use Rattle.cdi_bean_check.specs.Qualifiers.{full_uses}
use Rattle.cdi_resolve.proofs.required.has_each_written.Given as goal

abbrev pub invariant-loop-written : goal.invariant-loop-written
invariant-loop-written l = has_all l.own (full_uses l.types (drop l.written-index l.uses)) ≡ has_all l.own (full_uses l.types l.uses)
