use Rattle.std.proofs.Common.{◌≡◌, ◌++◌, map, drop}
use Rattle.cdi_beans.specs.ManagedQualifiers.{qualifiers_in}
use Rattle.cdi_resolve.specs.BeanKeys.{own_key}
use Rattle.cdi_resolve.proofs.bean_rows.add_parts.Given as goal

abbrev pub invariant-loop-part : goal.invariant-loop-part
invariant-loop-part l = l.keys ++ map (own_key l.flags) (qualifiers_in (drop l.part-index l.parts)) ≡ l.fn.keys ++ map (own_key l.flags) (qualifiers_in l.parts)
