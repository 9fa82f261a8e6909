use Rattle.std.proofs.Common.{◌≡◌, map}
use Rattle.std.specs.List.{list_any}
use Rattle.cdi_contexts.specs.Contexts.{belongs_to}
use Rattle.cdi_contexts.specs.Group.{request_of}
use Rattle.cdi_contexts.proofs.group.Group+Option+Text.has_member.Given as goal

abbrev pub invariant-loop-slot : goal.invariant-loop-slot
invariant-loop-slot l = list_any (belongs_to l.session) (map (λ p. request_of p.1) l._slot-iterator) ≡ list_any (belongs_to l.session) (map (λ p. request_of p.1) l.self)
