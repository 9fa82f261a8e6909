use Rattle.std.proofs.Common.{◌∙◌, ◌<◌, length, get_or, sym, arith}
use Rattle.std.proofs.lemmas.List.{get_or_default}
use Rattle.cdi_quals.proofs.Pairs.{goes_on, apart_by_length, agrees_at_equal, agrees_at_nonbinding}
use Rattle.cdi_quals.proofs.qualifier.agree.Goals as goal
use Rattle.cdi_quals.proofs.qualifier.agree.Goals.{else-a-i-via-then-a-i+else-is_ne, else-a-i-via-else-a-i}

pub returns-then-a-b : goal.returns-then-a-b
returns-then-a-b c = sym (apart_by_length c.args.a.now c.args.b.now c.if-a-b.true)

pub loop-i-preserved : goal.loop-i-preserved
loop-i-preserved c =
    let a = c.args.a.now in
    let b = c.args.b.now in
    let i = c.loop-i.i in
    let within : i < length b = omega (arith, c.if-a-b.false) in
    elim c.else-a-i.branch [
      | else-a-i-via-then-a-i+else-is_ne w ↦ goes_on a b i w.index-a-i-then-a-i.result w.index-b-i.result c.loop-i-test.true within w.index-a-i-then-a-i.is w.index-b-i.is (agrees_at_equal w.index-a-i-then-a-i.result w.index-b-i.result w.compare_values.result (rw (← w.index-a-i-then-a-i.is, ← w.index-b-i.is) at w.compare_values.ensures) (sym w.is_ne.ensures ∙ w.if-is_ne.false)) c.loop-i.invariant
      | else-a-i-via-else-a-i w ↦ (
          let x = c.index-a-i.result in
          goes_on a b i x (get_or b i x) c.loop-i-test.true within c.index-a-i.is (get_or_default b i x (get_or b i x) within) (agrees_at_nonbinding x (get_or b i x) (rw (← c.index-a-i.is) at w.if-a-i.false)) c.loop-i.invariant
          )
    ]
