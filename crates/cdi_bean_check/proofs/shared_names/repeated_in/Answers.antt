use Rattle.std.proofs.Common.{◌≡◌, ◌∙◌, ℕ, true, false, cond, nat_eq, take, sym, ap}
use Rattle.std.specs.HashSet.{contains}
use Rattle.std.specs.Prelude.{nat_lt}
use Rattle.cdi_bean_check.specs.SharedNames.{occurrences}
use Rattle.cdi_bean_check.proofs.SharedNames.{one_more, seen_more, seen_kept, repeated_more, repeated_kept}
use Rattle.cdi_bean_check.proofs.Tests.{equal_names}
use Rattle.cdi_bean_check.proofs.shared_names.repeated_in.Goals as goal
use Rattle.cdi_bean_check.proofs.shared_names.repeated_in.Goals.{then-contains+in_ok-insert, else-contains+in_ok-insert-2}

pub loop-name-preserved : goal.loop-name-preserved
loop-name-preserved c =
    let l = c.loop-name in
    let names = c.args.names.now in
    let name = c.name-item.result in
    let before : ℕ → ℕ = λ q. occurrences (take l.name-index names) q in
    let grown = λ (q : ℕ). one_more names l.name-index name q c.loop-name-test.true c.name-item.is in
    let count = λ (q : ℕ). before q in
    elim c.if-contains.branch [
      | then-contains+in_ok-insert w ↦ (
          let had : nat_lt 0 (before name) ≡ true = sym (l.invariant.0 name) ∙ sym c.contains.ensures ∙ w.if-contains.true in
          let also = λ (q : ℕ) (e : nat_eq name q ≡ true). ap (λ n. nat_lt 0 (before n)) (sym (equal_names name q e)) ∙ had in (
            λ q. ap (λ (s : _). contains nat_eq s q) w.seen-is ∙ l.invariant.0 q ∙ seen_kept (count q) (nat_eq name q) (also q) ∙ ap (nat_lt 0) (sym (grown q)),
            λ q. ap (λ (s : _). contains nat_eq s q) w.repeated-is ∙ w.in_ok-insert.ensures.updates.0 q ∙ ap (cond (nat_eq name q) true) (l.invariant.1 q) ∙ repeated_more (count q) (nat_eq name q) (also q) ∙ ap (nat_lt 1) (sym (grown q)),
          )
          )
      | else-contains+in_ok-insert-2 w ↦ (
          let new : nat_lt 0 (before name) ≡ false = sym (l.invariant.0 name) ∙ sym c.contains.ensures ∙ w.if-contains.false in
          let also = λ (q : ℕ) (e : nat_eq name q ≡ true). ap (λ n. nat_lt 0 (before n)) (sym (equal_names name q e)) ∙ new in (
            λ q. ap (λ (s : _). contains nat_eq s q) w.seen-is ∙ w.in_ok-insert-2.ensures.updates.0 q ∙ ap (cond (nat_eq name q) true) (l.invariant.0 q) ∙ seen_more (count q) (nat_eq name q) ∙ ap (nat_lt 0) (sym (grown q)),
            λ q. ap (λ (s : _). contains nat_eq s q) w.repeated-is ∙ l.invariant.1 q ∙ repeated_kept (count q) (nat_eq name q) (also q) ∙ ap (nat_lt 1) (sym (grown q)),
          )
          )
    ]
