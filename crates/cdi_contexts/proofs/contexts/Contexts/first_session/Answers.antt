use Rattle.std.proofs.Common.{◌∙◌, ap, refl}
use Rattle.cdi_contexts.specs.Group.{session_of}
use Rattle.cdi_contexts.specs.Standing.{first_open}
use Rattle.cdi_contexts.proofs.ByName.{shown_first, first_there}
use Rattle.cdi_contexts.proofs.contexts.Contexts.first_session.Goals as goal

pub returns-clause-value : goal.returns-clause-value
returns-clause-value c =
    shown_first session_of (λ r. r.name) (λ k. refl) (λ r. r.active) (λ k. refl) c.self.inside.sessions c.first_open.result c.first_open.ensures.value ∙ ap (λ s. first_open (λ r. r.active) s.contexts.sessions) c.self.view_is

pub returns-clause-there : goal.returns-clause-there
returns-clause-there c =
    rw (← c.self.view_is) (first_there session_of (λ r. r.name) (λ k. refl) (λ r. r.active) (λ k. refl) c.self.inside.sessions c.first_open.result c.first_open.ensures.apart c.first_open.ensures.value)
