use Rattle.std.proofs.Common.{◌≡◌, ◌++◌, map, take}
use Rattle.cdi_name_uses.proofs.known.add_exceptions.Given as goal

abbrev pub invariant-loop-exception : goal.invariant-loop-exception
invariant-loop-exception l =
    l.names ≡ l.initial.names ++ map (λ x. x.name) (take l.exception-index l.exceptions)
