use Rattle.std.proofs.Common.{◌≡◌, ◌||◌, ℕ, take}
use Rattle.std.specs.HashSet.{contains}
use Rattle.std.specs.List.{list_any}
use Rattle.cdi_name_check.specs.NameSets.{same_pair}
use Rattle.cdi_shape_check.specs.OwnParts.{is_method}
use Rattle.cdi_shape_check.proofs.own.add_methods.Given as goal

abbrev pub invariant-loop-member : goal.invariant-loop-member
invariant-loop-member l =
    (name count : ℕ) → contains same_pair l.set (name, count) ≡ (contains same_pair l.initial.set (name, count) || list_any (is_method name count) (take l.member-index l.members))
