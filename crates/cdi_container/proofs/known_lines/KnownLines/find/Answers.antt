use Rattle.std.proofs.Common.{subst}
use Rattle.cdi_container.specs.KnownLines.{AreKnown}
use Rattle.cdi_container.specs.declared.known_lines.KnownLines.{KnownLines}
use Rattle.cdi_container.proofs.known_lines.KnownLines.find.Goals as goal

pub returns-in-Some-clause-kept : goal.returns-in-Some-clause-kept
returns-in-Some-clause-kept c = λ names tables all.
    c.look_up.ensures.kept names tables (subst (λ lines. AreKnown names tables (record { lines = lines })) c.in-Some.is all)
