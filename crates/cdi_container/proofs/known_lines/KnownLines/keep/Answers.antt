use Rattle.std.proofs.Common.{subst, sym}
use Rattle.cdi_container.specs.KnownLines.{AreKnown}
use Rattle.cdi_container.proofs.known_lines.KnownLines.keep.Goals as goal

pub returns-in-Some : goal.returns-in-Some
returns-in-Some c = λ names tables all asks.
    c.put.ensures names tables (subst (λ lines. AreKnown names tables (record { lines = lines })) c.in-Some.is (c.lines_or_room.ensures names tables (subst (λ lines. AreKnown names tables (record { lines = lines })) (sym c.take.ensures.value) all))) asks
