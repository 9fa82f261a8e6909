use Rattle.std.proofs.Common.{◌≡◌, ◌++◌, map, drop}
use Rattle.cdi_resolve.specs.BeanKeys.{own_key}
use Rattle.cdi_resolve.proofs.bean_rows.add_qualifiers.Given as goal

abbrev pub invariant-loop-qualifier : goal.invariant-loop-qualifier
invariant-loop-qualifier l = l.keys ++ map (own_key l.flags) (drop l.qualifier-index l.qualifiers) ≡ l.fn.keys ++ map (own_key l.flags) l.qualifiers
