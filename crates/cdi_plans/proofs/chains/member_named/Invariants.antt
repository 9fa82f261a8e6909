use Rattle.std.proofs.Common.{◌≡◌, drop, nat_eq}
use Rattle.std.specs.Prelude.{option_map}
use Rattle.std.specs.List.{find}
use Rattle.cdi_plans.proofs.chains.member_named.Given as goal

abbrev pub invariant-loop-member : goal.invariant-loop-member
invariant-loop-member l = option_map (λ m. m.bindings) (find (λ m. nat_eq m.name l.name) (drop l.member-index l.members)) ≡ option_map (λ m. m.bindings) (find (λ m. nat_eq m.name l.name) l.members)
