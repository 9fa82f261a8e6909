use Rattle.std.proofs.Common.{◌∙◌, Bool, cond, take, [], ◌∷◌, ◌++◌, sym, ap}
use Rattle.std.specs.List.{list_any}
use Rattle.cdi_resolve.specs.BeanKeys.{same_key}
use Rattle.cdi_resolve.specs.BeanRows.{row_of, with_last}
use Rattle.cdi_resolve.proofs.Rows.{added_key, any_more}
use Rattle.cdi_resolve.proofs.bean_rows.BeanRows.add_bean.Goals as goal

pub loop-key-preserved : goal.loop-key-preserved
loop-key-preserved c = λ k.
    let bean = c.args.bean in
    let n = c.key-item.result in
    let found = c.args.found.now in
    let i = c.loop-key.key-index in
    let old = row_of c.args.self.now k in
    let some : Bool = list_any (λ own. same_key own k) (take i found) in
    c.in_ok-add.ensures k
    ∙ ap (λ r. cond (same_key n k) (with_last r bean) r) (c.loop-key.invariant k)
    ∙ added_key some (same_key n k) old bean (c.requires k)
    ∙ ap (λ a. cond a (old ++ bean ∷ []) old) (sym (any_more found i n k c.loop-key-test.true c.key-item.is))
