use Rattle.cdi_program.proofs.telling.tell_refused.Goals as goal

pub returns : goal.returns
returns g c = record { between = _; warns = c.tell_warning.ensures; tells = c.tell_hint.ensures }
