use Rattle.cdi_container.proofs.KeptLines.{known_after}
use Rattle.cdi_container.proofs.known_lines.put.Goals as goal

pub returns-in-Some : goal.returns-in-Some
returns-in-Some c = λ names tables all asks.
    known_after names tables c.args.lines.now c.hash_of.result c.in-Some.known all (c.in-Some.ensures names tables asks) c.put.result c.put.new.self c.put.ensures.entries c.put.ensures.err
