use Rattle.std.proofs.Common.{◌≡◌, drop}
use Rattle.cdi_resolve.specs.BeanIndex.{with_all}
use Rattle.cdi_resolve.proofs.bean_index.BeanIndex.with_all.Given as goal

abbrev pub invariant-loop-qualifier : goal.invariant-loop-qualifier
invariant-loop-qualifier l = with_all l.self l.rarest (drop l.qualifier-index l.required) ≡ with_all l.self l.fn.key l.required
