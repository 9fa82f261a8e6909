use Rattle.std.proofs.Common.{◌≡◌, drop, fold}
use Rattle.cdi_resolve.specs.Digests.{mixed}
use Rattle.cdi_resolve.proofs.digest.with_text.Given as goal

abbrev pub invariant-loop-byte : goal.invariant-loop-byte
invariant-loop-byte l = fold mixed l.digest (drop l.byte-index l.byte-items) ≡ fold mixed l.fn.digest l.byte-items
