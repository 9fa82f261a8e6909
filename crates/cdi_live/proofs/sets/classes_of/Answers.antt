use Rattle.std.proofs.Common.{◌≡◌, ◌∙◌, ◌&&◌, ◌==◌, Bool, true, false, cond, nat_eq, refl, sym, ap}
use Rattle.std.specs.HashSet.{contains}
use Rattle.cdi_resolve.specs.Filters.{is_bean_of}
use Rattle.cdi_beans.specs.Kinds.{is_managed}
use Rattle.cdi_name_check.proofs.NameSteps.{one_taken, none_taken}
use Rattle.cdi_live.proofs.sets.classes_of.Goals as goal
use Rattle.cdi_live.proofs.sets.classes_of.Goals.{then-is_managed+in_ok-insert, else-is_managed}

with_true : (a b : Bool) → a ≡ true → (a && b) ≡ b
with_true true b e = refl
with_true false b e = absurd cc

with_false : (a b : Bool) → a ≡ false → (a && b) ≡ false
with_false true b e = absurd cc
with_false false b e = refl

pub loop-bean-preserved : goal.loop-bean-preserved
loop-bean-preserved c =
    let l = c.loop-bean in
    let bean = c.bean-item.result in
    elim c.if-is_managed.branch [
      | then-is_managed+in_ok-insert w ↦ rw w.set-is (one_taken (λ b q. is_bean_of q b) c.args.enabled.now l.bean-index bean c.loop-bean-test.true c.bean-item.is l.set l.invariant bean.1.class _
          (λ q. with_true (is_managed bean.1.kind) (bean.1.class == q) (sym c.is_managed.ensures ∙ w.if-is_managed.true))
          (λ q. w.in_ok-insert.ensures.updates.0 q ∙ ap (λ n. cond (nat_eq n q) true (contains nat_eq l.set q)) w.class.ensures))
      | else-is_managed w ↦ rw w.set-is (none_taken (λ b q. is_bean_of q b) c.args.enabled.now l.bean-index bean c.loop-bean-test.true c.bean-item.is l.set l.invariant
          (λ q. with_false (is_managed bean.1.kind) (bean.1.class == q) (sym c.is_managed.ensures ∙ w.if-is_managed.false)))
    ]
