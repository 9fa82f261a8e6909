use Rattle.std.proofs.Common.{◌≡◌, ◌++◌, string_bytes, take}
use Rattle.cdi_pictures.specs.Points as spec
use Rattle.cdi_pictures.proofs.points.add_bean_edges.Given as goal

abbrev pub invariant-loop-place : goal.invariant-loop-place
invariant-loop-place l =
    string_bytes l.text ≡ string_bytes l.initial.text
    ++ spec.bean_edges (spec.asker_of l.asker) l.label l.look (take l.place-index l.places)
