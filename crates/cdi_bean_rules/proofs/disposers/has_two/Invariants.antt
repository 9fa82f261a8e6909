use Rattle.std.proofs.Common.{◌≡◌, true, false}
use Rattle.cdi_deployment.specs.declared.deployment.Member.{Member}
use Rattle.cdi_bean_rules.specs.Disposers.{Disposes}
use Rattle.cdi_bean_rules.proofs.Pairs.{OneBefore, NoneBefore, NotTwoBefore}
use Rattle.cdi_bean_rules.proofs.disposers.has_two.Given as goal

pub record Invariant (l : goal.Live-loop-member) : Type 0 where
  pub seen : l.has_one ≡ true → OneBefore (λ m. Disposes l.types l.qualifiers m l.producer) l.members l.member-index
  pub unseen : l.has_one ≡ false → NoneBefore (λ m. Disposes l.types l.qualifiers m l.producer) l.members l.member-index
  pub not_two : NotTwoBefore (λ m. Disposes l.types l.qualifiers m l.producer) l.members l.member-index

abbrev pub invariant-loop-member : goal.invariant-loop-member
invariant-loop-member l = Invariant l
