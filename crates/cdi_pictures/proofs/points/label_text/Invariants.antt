use Rattle.std.proofs.Common.{◌≡◌, string_bytes, take}
use Rattle.cdi_pictures.specs.Points as spec
use Rattle.cdi_pictures.proofs.points.label_text.Given as goal

abbrev pub invariant-loop-qual : goal.invariant-loop-qual
invariant-loop-qual l =
    string_bytes l.text ≡ spec.label_text l.names l.fn.ty (take l.qual-index l.quals)
