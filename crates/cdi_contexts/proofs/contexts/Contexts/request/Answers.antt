use Rattle.std.proofs.Common.{◌∙◌, ap, refl}
use Rattle.cdi_contexts.specs.Group.{request_of}
use Rattle.cdi_contexts.specs.Contexts.{request_in}
use Rattle.cdi_contexts.proofs.ByName.{shown_named, named_there}
use Rattle.cdi_contexts.proofs.contexts.Contexts.request.Goals as goal

pub returns-clause-value : goal.returns-clause-value
returns-clause-value c =
    shown_named request_of (λ r. r.name) (λ k. refl) (λ r. r.active) (λ k. refl) c.self.inside.requests c.find.result c.args.name.now c.find.ensures.value ∙ ap (λ s. request_in s.contexts.requests c.args.name.now) c.self.view_is

pub returns-clause-there : goal.returns-clause-there
returns-clause-there c =
    rw (← c.self.view_is) (named_there request_of (λ r. r.name) (λ k. refl) (λ r. r.active) (λ k. refl) c.self.inside.requests c.find.result c.args.name.now c.find.ensures.apart c.find.ensures.value)
