use Rattle.cdi_program.proofs.program.tell_drawn.Goals as goal

pub returns-else-is_refused : goal.returns-else-is_refused
returns-else-is_refused g c = rw c.if-is_refused.false c.tell_warning.ensures
