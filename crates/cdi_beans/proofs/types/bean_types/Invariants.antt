use Rattle.std.proofs.Common.{◌≡◌, filter, take}
use Rattle.cdi_bean_check.specs.BeanTypes.{is_left}
use Rattle.cdi_beans.proofs.types.bean_types.Given as goal

abbrev pub invariant-loop-name : goal.invariant-loop-name
invariant-loop-name l = l.found ≡ filter (is_left l.typed) (take l.name-index l.name-items)
