use Rattle.cdi_prepare.proofs.hint.MistakeDisplay.fmt.Goals as goal

pub returns-in-List-clause-writes : goal.returns-in-List-clause-writes
returns-in-List-clause-writes g c = rw (c.in-List.is, ← c.as_str-path.ensures) c.write-in-List.ensures.writes
