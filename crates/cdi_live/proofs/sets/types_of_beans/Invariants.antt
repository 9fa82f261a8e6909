use Rattle.std.proofs.Common.{take}
use Rattle.std.specs.Prelude.{◌↔◌, IsTrue}
use Rattle.std.specs.List.{Any}
use Rattle.cdi_live.specs.Live.{IsBeanBelow}
use Rattle.cdi_types.specs.NameSet.{has}
use Rattle.cdi_live.proofs.sets.types_of_beans.Given as goal

abbrev pub invariant-loop-bean : goal.invariant-loop-bean
invariant-loop-bean l = (class : _) → IsTrue (has l.names class) ↔ Any (IsBeanBelow l.types class) (take l.bean-index l.enabled)
