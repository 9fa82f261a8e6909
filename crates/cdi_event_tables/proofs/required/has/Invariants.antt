use Rattle.std.proofs.Common.{◌≡◌, drop}
use Rattle.cdi_bean_check.specs.Qualifiers.{full_uses}
use Rattle.cdi_quals.specs.Qualifiers.{has}
use Rattle.cdi_event_tables.proofs.required.has.Given as goal

-- the answer is that of the uses that are left
abbrev pub invariant-loop-written : goal.invariant-loop-written
invariant-loop-written l = has (full_uses l.types (drop l.written-index l.uses)) l.required ≡ has (full_uses l.types l.uses) l.required
