use Rattle.std.proofs.Common.{◌≡◌, ◌||◌, ℕ, nat_eq, drop}
use Rattle.std.specs.List.{list_any}
use Rattle.cdi_types.specs.NameSet.{has}
use Rattle.cdi_types.proofs.name_set.NameSet.insert_all.Given as goal

-- the names that are there, with those that are left
abbrev pub invariant-loop-name : goal.invariant-loop-name
invariant-loop-name l =
    (name : ℕ) → (list_any (λ n. nat_eq n name) (drop l.name-index l.names) || has l.self name)
    ≡ (list_any (λ n. nat_eq n name) l.names || has l.initial.self name)
