use Rattle.std.proofs.Common.{◌∙◌, ap, refl}
use Rattle.cdi_contexts.specs.Group.{session_of}
use Rattle.cdi_contexts.specs.Contexts.{session_in}
use Rattle.cdi_contexts.proofs.ByName.{shown_named, named_there}
use Rattle.cdi_contexts.proofs.contexts.Contexts.session.Goals as goal

pub returns-clause-value : goal.returns-clause-value
returns-clause-value c =
    shown_named session_of (λ r. r.name) (λ k. refl) (λ r. r.active) (λ k. refl) c.self.inside.sessions c.find.result c.args.name.now c.find.ensures.value ∙ ap (λ s. session_in s.contexts.sessions c.args.name.now) c.self.view_is

pub returns-clause-there : goal.returns-clause-there
returns-clause-there c =
    rw (← c.self.view_is) (named_there session_of (λ r. r.name) (λ k. refl) (λ r. r.active) (λ k. refl) c.self.inside.sessions c.find.result c.args.name.now c.find.ensures.apart c.find.ensures.value)
