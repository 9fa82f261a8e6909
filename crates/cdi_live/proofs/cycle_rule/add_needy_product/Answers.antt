use Rattle.std.proofs.Common.{◌≡◌, ◌∙◌, ℕ, Bool, true, false, cond, List, Some, None, sym, ap}
use Rattle.std.specs.HashSet.{contains}
use Rattle.cdi_beans.specs.declared.bean.Bean.{Bean}
use Rattle.cdi_live.specs.Cycles.{flag}
use Rattle.cdi_live.specs.OwnPoints.{product_name}
use Rattle.cdi_live.proofs.NeedyProducts.{no_product, no_flag, needy}
use Rattle.cdi_live.proofs.cycle_rule.add_needy_product.Goals as goal
use Rattle.cdi_name_check.specs.NameSets.{same_pair}

pub returns-in_default : goal.returns-in_default
returns-in_default c = λ class name.
    let none : product_name c.args.bean.now.1.kind ≡ None = ap (λ (b : Bean). product_name b.kind) (sym c.bean.ensures) ∙ sym c.product_name.ensures ∙ c.in_default.is in
    no_product c.args.flags.now c.args.bean.now (contains same_pair c.args.set.now (class, name)) class name none

pub returns-then-not-has_flag : goal.returns-then-not-has_flag
returns-then-not-has_flag c = λ class name.
    let off : flag c.args.flags.now.beans c.args.bean.now.0 ≡ false =
    ap (λ (flags : List Bool). flag flags c.args.bean.now.0) (sym c.as_slice.ensures) ∙ ap (λ (i : ℕ). flag c.as_slice.result.now i) (sym c.index.ensures) ∙ sym c.has_flag.ensures ∙ c.if-not-has_flag.true in
    no_flag c.args.flags.now c.args.bean.now (contains same_pair c.args.set.now (class, name)) class name off

pub returns : goal.returns
returns c = λ class name.
    let before = contains same_pair c.args.set.now (class, name) in
    let some : product_name c.args.bean.now.1.kind ≡ Some c.in-Some.name = ap (λ (b : Bean). product_name b.kind) (sym c.bean.ensures) ∙ sym c.product_name.ensures ∙ c.in-Some.is in
    let on : flag c.args.flags.now.beans c.args.bean.now.0 ≡ true =
    ap (λ (flags : List Bool). flag flags c.args.bean.now.0) (sym c.as_slice.ensures) ∙ ap (λ (i : ℕ). flag c.as_slice.result.now i) (sym c.index.ensures) ∙ sym c.has_flag.ensures ∙ c.if-not-has_flag.false in
    c.in_ok-insert.ensures.updates.0 (class, name)
    ∙ ap (λ (b : Bean). cond (same_pair (b.class, c.in-Some.name) (class, name)) true before) c.bean-2.ensures
    ∙ needy c.args.flags.now c.args.bean.now before class name c.in-Some.name some on
