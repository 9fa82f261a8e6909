use Rattle.cdi_contexts.proofs.Numbers.{up_to}
use Rattle.cdi_contexts.proofs.places.Places.last.Goals as goal

pub returns : goal.returns
returns c = let k = c.in_ok-last.field-0.now in ((k.bean, c.in_ok-last.ensures.member), λ p h. up_to k p (c.in_ok-last.ensures.greatest p h))
