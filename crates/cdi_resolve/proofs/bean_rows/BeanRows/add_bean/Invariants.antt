use Rattle.std.proofs.Common.{◌≡◌, take, cond, ◌++◌, ◌∷◌, []}
use Rattle.std.specs.List.{list_any}
use Rattle.cdi_resolve.specs.BeanKeys.{same_key}
use Rattle.cdi_resolve.specs.BeanRows.{row_of}
use Rattle.cdi_resolve.specs.declared.bean_key.BeanKey.{BeanKey}
use Rattle.cdi_resolve.proofs.bean_rows.BeanRows.add_bean.Given as goal

abbrev pub invariant-loop-key : goal.invariant-loop-key
invariant-loop-key l = (k : BeanKey) → row_of l.self k ≡ cond (list_any (λ own. same_key own k) (take l.key-index l.found)) (row_of l.fn.self k ++ l.bean ∷ []) (row_of l.fn.self k)
