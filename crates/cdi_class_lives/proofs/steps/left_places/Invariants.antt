use Rattle.std.proofs.Common.{◌≡◌, filter, take}
use Rattle.cdi_class_lives.specs.Inheriting.{leaves_at}
use Rattle.cdi_class_lives.proofs.steps.left_places.Given as goal

abbrev pub invariant-loop-place : goal.invariant-loop-place
invariant-loop-place l = l.left ≡ filter (leaves_at l.declared l.kept) (take l.place-index l.places)
