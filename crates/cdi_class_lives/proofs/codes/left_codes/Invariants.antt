use Rattle.std.proofs.Common.{◌≡◌, filter, take}
use Rattle.cdi_class_lives.specs.Inheriting.{leaves_code}
use Rattle.cdi_class_lives.proofs.codes.left_codes.Given as goal

abbrev pub invariant-loop-code : goal.invariant-loop-code
invariant-loop-code l = l.left ≡ filter (leaves_code l.declared) (take l.code-index l.codes)
