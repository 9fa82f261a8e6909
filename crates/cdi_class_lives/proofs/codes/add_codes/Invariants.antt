use Rattle.std.proofs.Common.{◌≡◌, ◌++◌, take}
use Rattle.cdi_class_lives.proofs.codes.add_codes.Given as goal

abbrev pub invariant-loop-code : goal.invariant-loop-code
invariant-loop-code l = l.codes ≡ l.initial.codes ++ take l.code-index l.more
