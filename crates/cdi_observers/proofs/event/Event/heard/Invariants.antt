use Rattle.std.proofs.Common.{take}
use Rattle.cdi_types.specs.ListsThose.{ListsThose}
use Rattle.cdi_observers.specs.Order.{HearsAt}
use Rattle.cdi_observers.proofs.event.Event.heard.Given as goal

abbrev pub invariant-loop-ranked : goal.invariant-loop-ranked
invariant-loop-ranked l = ListsThose (λ r. HearsAt l.self.types.now l.self.class l.self.qualifiers.now l.observers r.index) (take l.ranked-index l.order) l.heard
