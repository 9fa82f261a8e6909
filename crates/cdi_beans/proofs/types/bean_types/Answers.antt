use Rattle.std.proofs.Common.{◌≡◌, ◌∙◌, ℕ, List, take, filter, sym, ap, subst, arith}
use Rattle.std.proofs.lemmas.Grind.{common_steps}
use Rattle.cdi_types.specs.ListsThose.{ListsThose}
use Rattle.cdi_types.specs.Subtype.{all_types}
use Rattle.cdi_bean_check.specs.BeanTypes.{IsBeanType, is_left}
use Rattle.cdi_beans.proofs.Restricted.{restricted}
use Rattle.cdi_beans.proofs.types.bean_types.Goals as goal

pub returns : goal.returns
returns c =
    let types = c.args.types.now in
    let typed = c.args.typed.now in
    let i = c.loop-name in
    let all : take i.name-index c.as_slice-name-items.result.now ≡ c.in_ok-above.above = grind (arith, common_steps, c.as_slice-name-items.ensures, c.loop-name-test.false) in
    let P : List ℕ → Type 0 = ListsThose (IsBeanType types c.args.of typed) (all_types types) in
    subst P (sym (i.invariant ∙ ap (filter (is_left typed)) all)) (restricted types c.args.of typed c.in_ok-above.ensures)
