use Rattle.std.proofs.Common.{◌≡◌, ◌∙◌, ◌+◌, true, false, cond, [], ◌∷◌, ◌++◌, sym, ap, arith}
use Rattle.std.specs.List.{list_any}
use Rattle.cdi_resolve.specs.BeanKeys.{same_key, has_key}
use Rattle.cdi_resolve.specs.BeanRows.{row_of, ends_in, listed}
use Rattle.cdi_resolve.specs.Filters.{is_enabled}
use Rattle.cdi_resolve.specs.declared.bean_key.BeanKey.{BeanKey}
use Rattle.cdi_resolve.proofs.Rows.{ahead, enabled_more, disabled_more, fresh_more}
use Rattle.cdi_resolve.proofs.bean_rows.BeanRows.build.Goals as goal
use Rattle.cdi_resolve.proofs.bean_rows.BeanRows.build.Goals.{then-has_flag+in_ok-found+in_ok-add_bean, else-has_flag}

pub loop-place-preserved : goal.loop-place-preserved
loop-place-preserved c =
    let marks = c.args.flags.now in
    let beans = c.args.beans.now in
    let flags = c.args.enabled.now in
    let i = c.loop-place.place in
    let b = c.index-beans-place.result in
    let rows = c.loop-place.rows in
    let lt = c.loop-place-test.true in
    let is = c.index-beans-place.is in
    elim c.if-has_flag.branch [
      | then-has_flag+in_ok-found+in_ok-add_bean w ↦
          let on : is_enabled flags i ≡ true = sym c.has_flag.ensures ∙ w.if-has_flag.true in
          let added : (k : BeanKey) → row_of w.add_bean.new.self k ≡ cond (has_key marks k b) (row_of rows k ++ i ∷ []) (row_of rows k) = λ k. w.in_ok-add_bean.ensures k ∙ ap (λ own. cond (list_any (λ o. same_key o k) own) (row_of rows k ++ i ∷ []) (row_of rows k)) (w.as_slice.ensures ∙ w.in_ok-found.ensures) in
          rw w.rows-is record {
            told = λ k. ap (λ r. listed beans r ++ ahead (has_key marks k) beans flags i b lt is (i + 1)) (added k) ∙ enabled_more (has_key marks k) beans flags i b lt is on (row_of rows k) ∙ c.loop-place.invariant.told k;
            fresh = λ k j le. ap (λ r. ends_in r j) (added k) ∙ fresh_more (has_key marks k b) (row_of rows k) i (c.loop-place.invariant.fresh k) j le;
          }
      | else-has_flag w ↦
          let off : is_enabled flags i ≡ false = sym c.has_flag.ensures ∙ w.if-has_flag.false in
          rw w.rows-is record {
            told = λ k. disabled_more (has_key marks k) beans flags i b lt is off (row_of rows k) ∙ c.loop-place.invariant.told k;
            fresh = λ k j le. c.loop-place.invariant.fresh k j (omega arith);
          }
    ]
