use Rattle.std.proofs.Common.{◌≡◌, ◌++◌, map, drop}
use Rattle.cdi_resolve.proofs.binding_flags.flags_of.Given as goal

abbrev pub invariant-loop-member : goal.invariant-loop-member
invariant-loop-member l = l.flags ++ map (λ m. m.is_binding) (drop l.member-index l.members) ≡ map (λ m. m.is_binding) l.members
