use Rattle.std.proofs.Common.{◌∙◌, sym}
use Rattle.std.proofs.lemmas.Bool.Decides.{Decides-eqb}
use Rattle.std.proofs.lemmas.Slice.Eq.{slice_eq-Decides}
use Rattle.cdi_container.proofs.known_lines.is_line.Goals as goal

pub returns : goal.returns
returns c = λ e.
    sym c.as_slice.ensures.value ∙ (slice_eq-Decides Decides-eqb c.as_slice.result.now c.args.line.now c.eq.result c.eq.ensures).0 e
