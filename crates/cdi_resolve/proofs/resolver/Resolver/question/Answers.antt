use Rattle.cdi_resolve.specs.Filters.{required, required_of}
use Rattle.cdi_resolve.proofs.Looking.{rarest_is_enough}
use Rattle.cdi_resolve.proofs.resolver.Resolver.question.Goals as goal

pub returns : goal.returns
returns c =
    rw (c.as_slice.ensures, c.row.ensures, c.asked_type.ensures, c.key_of-key.ensures, ← c.self.view_is) (rarest_is_enough c.self.inside.beans c.self.inside.enabled c.self.inside.index c.self.invariant.1 c.args.ty (required (required_of c.args.required.now)))
