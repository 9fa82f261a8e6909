use Rattle.std.proofs.Common.{◌∙◌, length, refl, ap}
use Rattle.cdi_types.specs.Members.{members_of}
use Rattle.cdi_types.specs.declared.kind.MemberKind.TheVariants as kinds
use Rattle.cdi_types.proofs.KindLists.{count-of_kind}
use Rattle.cdi_bean_rules.specs.Limits.{is_observer}
use Rattle.cdi_bean_rules.proofs.ObserverKinds.{are_observers}
use Rattle.cdi_bean_rules.proofs.limits.observers_of.Goals as goal

pub returns : goal.returns
returns c =
    record {
      has = members_of c.in_ok-line.line;
      are = record { line = c.in_ok-line.line; is_line = c.in_ok-line.ensures; are = refl };
      sum = c.len.ensures ∙ ap length c.in_ok-observers.ensures ∙ count-of_kind kinds.Observer (λ d. is_observer d.1) are_observers (members_of c.in_ok-line.line);
    }
