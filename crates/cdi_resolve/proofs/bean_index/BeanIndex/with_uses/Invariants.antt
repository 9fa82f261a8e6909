use Rattle.std.proofs.Common.{◌≡◌, drop}
use Rattle.cdi_bean_check.specs.Qualifiers.{full_uses}
use Rattle.cdi_resolve.specs.BeanIndex.{with_all}
use Rattle.cdi_resolve.proofs.bean_index.BeanIndex.with_uses.Given as goal

abbrev pub invariant-loop-written : goal.invariant-loop-written
invariant-loop-written l = with_all l.self l.rarest (full_uses l.types (drop l.written-index l.uses)) ≡ with_all l.self l.fn.key (full_uses l.types l.uses)
