use Rattle.std.proofs.Common.{◌≡◌, ◌==◌, ◌&&◌, ◌||◌, ℕ, take}
use Rattle.std.specs.HashSet.{contains}
use Rattle.cdi_name_check.specs.NameSets.{same_pair}
use Rattle.cdi_deployment.specs.Lists.{stands_in}
use Rattle.cdi_name_check.proofs.unknown_name.name_sets.add_members.Given as goal

abbrev pub invariant-loop-name : goal.invariant-loop-name
invariant-loop-name l =
    (owner name : ℕ) → contains same_pair l.set (owner, name) ≡ (contains same_pair l.initial.set (owner, name) || ((l.declared.name == owner) && stands_in (take l.name-index l.name-items) name))
