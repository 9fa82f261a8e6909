use Rattle.std.proofs.Common.{◌≡◌, ◌||◌, ℕ, nat_eq, drop}
use Rattle.std.specs.List.{list_any}
use Rattle.cdi_deployment.specs.Member.{member_name}
use Rattle.cdi_types.specs.NameSet.{has}
use Rattle.cdi_types.proofs.name_set.NameSet.insert_members.Given as goal

-- the names that are there, with those of the members that are left
abbrev pub invariant-loop-member : goal.invariant-loop-member
invariant-loop-member l =
    (name : ℕ) → (list_any (λ m. nat_eq (member_name m) name) (drop l.member-index l.member-items) || has l.self name)
    ≡ (list_any (λ m. nat_eq (member_name m) name) l.member-items || has l.initial.self name)
