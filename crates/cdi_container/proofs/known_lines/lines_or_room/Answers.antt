use Rattle.cdi_container.proofs.KeptLines.{none_known}
use Rattle.cdi_container.proofs.known_lines.lines_or_room.Goals as goal

pub returns-in-None : goal.returns-in-None
returns-in-None c = λ names tables all. none_known names tables _ c.sparse.result c.sparse.ensures c.ok.result c.ok.ensures.value
