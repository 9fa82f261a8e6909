use Rattle.std.proofs.Common.{take}
use Rattle.cdi_name_check.specs.NameSets.{HasPairs}
use Rattle.cdi_live.specs.Live.{is_live_member}
use Rattle.cdi_live.specs.MemberSets.{HasLast}
use Rattle.cdi_live.proofs.sets.members_of.Given as goal

abbrev pub invariant-loop-bean : goal.invariant-loop-bean
invariant-loop-bean l = HasPairs (is_live_member (take l.bean-index l.enabled)) l.set × HasLast l.set l.last
