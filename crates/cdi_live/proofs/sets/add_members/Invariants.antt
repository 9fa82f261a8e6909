use Rattle.std.proofs.Common.{◌≡◌, ◌||◌, ℕ, take}
use Rattle.std.specs.HashSet.{contains}
use Rattle.cdi_name_check.specs.NameSets.{same_pair}
use Rattle.cdi_live.specs.MemberSets.{HasLast}
use Rattle.cdi_live.proofs.MemberSets.{is_among}
use Rattle.cdi_live.proofs.sets.add_members.Given as goal

abbrev pub invariant-loop-member : goal.invariant-loop-member
invariant-loop-member l =
    ((class name : ℕ) → contains same_pair l.set (class, name) ≡ (contains same_pair l.initial.set (class, name) || is_among (take l.member-index l.member-items) class name))
    × HasLast l.set l.last
