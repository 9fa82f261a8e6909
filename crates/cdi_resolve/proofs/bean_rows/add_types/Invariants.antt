use Rattle.std.proofs.Common.{◌≡◌, ◌++◌, map, drop}
use Rattle.cdi_resolve.specs.declared.bean_key.BeanKey.TheVariants as keys
use Rattle.cdi_resolve.proofs.bean_rows.add_types.Given as goal

abbrev pub invariant-loop-ty : goal.invariant-loop-ty
invariant-loop-ty l = l.keys ++ map keys.Type (drop l.ty-index l.types) ≡ l.fn.keys ++ map keys.Type l.types
