use Rattle.std.proofs.Common.{◌≡◌, ◌++◌, string_bytes, take}
use Rattle.cdi_pictures.specs.Points as spec
use Rattle.cdi_pictures.proofs.points.add_params.Given as goal

abbrev pub invariant-loop-point : goal.invariant-loop-point
invariant-loop-point l =
    string_bytes l.text ≡ string_bytes l.initial.text
    ++ spec.params_text (spec.asker_of l.asker) (take l.point-index l.params)
