use Rattle.std.proofs.Common.{◌∙◌, ◌∷◌, [], ◌++◌, take, sym, subst, ap}
use Rattle.std.specs.List.{AllZip}
use Rattle.std.proofs.lemmas.List.{take_all, take_more}
use Rattle.cdi_bean_lives.proofs.Lasting.{all_last, both_more, by_plans, have_few}
use Rattle.cdi_bean_lives.specs.Beans.{IsKeptBean, IsKeptWith}
use Rattle.cdi_bean_lives.specs.Steps.{HaveFewSteps}
use Rattle.cdi_bean_lives.proofs.kept.KeptBeans.build.Goals as goal

pub loop-bean-preserved : goal.loop-bean-preserved
loop-bean-preserved c =
    let t = c.args.planner.now in
    let n = c.args.numbering.now in
    let i = c.loop-bean in
    let bs = c.args.beans.now in
    let b = c.bean-item.result in
    let new = c.build.new.lines.lives in
    let R = IsKeptWith t n new in
    let front = all_last t n i.lines.lives new c.in_ok-build.ensures.others (take i.bean-index bs) i.kept i.invariant.kept in
    record {
      kept =
          subst (λ xs. AllZip R xs c.push.new.self) (sym (take_more bs i.bean-index b c.loop-bean-test.true ∙ ap (λ x. take i.bean-index bs ++ x ∷ []) (sym c.bean-item.is)))
          (subst (AllZip R (take i.bean-index bs ++ b ∷ [])) (sym c.in_ok-push.ensures.ok)
          (both_more R (take i.bean-index bs) i.kept b c.in_ok-build.field-0 front c.in_ok-build.ensures.kept));
      lives = c.in_ok-build.ensures.lives;
      asks = c.build.ensures.asks;
    }

pub invariant_of-result : goal.invariant_of-result
invariant_of-result c =
    let i = c.loop-bean in
    record {
      few = subst (λ l. HaveFewSteps l i.kept) (sym c.into_lives.ensures)
          (have_few c.args.planner.now c.args.numbering.now i.lines.lives (take i.bean-index c.args.beans.now) i.kept i.invariant.kept);
    }

pub returns-clause-beans : goal.returns-clause-beans
returns-clause-beans c =
    let t = c.args.planner.now in
    let n = c.args.numbering.now in
    let i = c.loop-bean in
    let bs = c.args.beans.now in
    subst (λ xs. AllZip (IsKeptBean t n c.into_lives.result) xs i.kept) (take_all i.bean-index bs c.loop-bean-test.false)
    (subst (λ l. AllZip (IsKeptBean t n l) (take i.bean-index bs) i.kept) (sym c.into_lives.ensures)
    (by_plans t n i.lines.lives (take i.bean-index bs) i.kept i.invariant.kept))
