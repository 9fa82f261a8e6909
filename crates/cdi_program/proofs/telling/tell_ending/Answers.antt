use Rattle.std.proofs.Common.{inl, inr}
use Rattle.cdi_program.proofs.telling.tell_ending.Goals as goal

pub returns-in-Refused-clause-tells : goal.returns-in-Refused-clause-tells
returns-in-Refused-clause-tells g c = rw c.in-Refused.is c.tell_refused.ensures

pub returns-in-Fine-clause-tells : goal.returns-in-Fine-clause-tells
returns-in-Fine-clause-tells g c =
    elim c.in-Fine.is [
      | inl fine ↦ rw fine c.tell_warning.ensures
      | inr halted ↦ rw halted.1 c.tell_warning.ensures
    ]
