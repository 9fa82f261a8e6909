use Rattle.std.proofs.Common.{◌∙◌, nat_eq, sym, ap, option_and_then, slice_get}
use Rattle.cdi_deployment.specs.declared.deployment.Class.{Class}
use Rattle.cdi_types.proofs.LineSteps.{found_by_place}
use Rattle.cdi_types.proofs.class_index.ClassIndex.class.Goals as goal

pub returns : goal.returns
returns c =
    c.at.ensures ∙ ap (option_and_then (slice_get c.args.self.now)) c.place.ensures ∙ sym (found_by_place (λ (k : Class). nat_eq k.name c.args.name) c.args.self.now)
