use Rattle.std.proofs.Common.{◌≡◌, ◌∙◌, IfOk, map, ap, refl, subst}
use Rattle.cdi_contexts.specs.Group.{session_of}
use Rattle.cdi_contexts.proofs.Orderly.{names_seen}
use Rattle.cdi_contexts.proofs.contexts.Contexts.session_names.Goals as goal

pub returns : goal.returns
returns c =
    let names = names_seen session_of (λ r. r.name) (λ k. refl) c.self.inside.sessions ∙ ap (λ s. map (λ r. r.name) s.contexts.sessions) c.self.view_is in
    subst (λ ns. IfOk c.names.result (λ v. v.items ≡ ns)) names c.names.ensures
