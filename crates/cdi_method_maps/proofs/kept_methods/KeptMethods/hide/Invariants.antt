use Rattle.std.proofs.Common.{◌≡◌, ◌++◌, take}
use Rattle.cdi_method_maps.specs.KeptMethods.{hidden_changes}
use Rattle.cdi_method_maps.proofs.kept_methods.KeptMethods.hide.Given as goal

-- the changes for the names that were looked at are behind the others
abbrev pub invariant-loop-name : goal.invariant-loop-name
invariant-loop-name l = l.changes.items ≡ l.fn.changes.items ++ hidden_changes l.self (take l.name-index l.names)
