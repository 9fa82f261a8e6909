use Rattle.std.proofs.Common.{◌∙◌, ap, sym}
use Rattle.cdi_base.specs.declared.scope.Scope.TheVariants as scopes
use Rattle.cdi_contexts.specs.Group.{standing}
use Rattle.cdi_contexts.specs.Standing.{without_env}
use Rattle.cdi_contexts.proofs.ByName.{request_gone, session_gone}
use Rattle.cdi_contexts.proofs.contexts.Contexts.remove_active.Goals as goal

pub returns-in-SessionScoped : goal.returns-in-SessionScoped
returns-in-SessionScoped c =
    ap (λ n. standing c.self.inside.application c.self.inside.requests n) c.remove_at.ensures.removed
    ∙ session_gone c.self.inside.application c.self.inside.requests c.self.inside.sessions c.args.env c.remove_at.ensures.apart
    ∙ ap (λ s. without_env c.args.env scopes.SessionScoped s) c.self.view_is ∙ ap (λ scope. without_env c.args.env scope c.args.self.now) (sym c.in-SessionScoped.is)

pub returns-in-RequestScoped : goal.returns-in-RequestScoped
returns-in-RequestScoped c =
    ap (λ m. standing c.self.inside.application m c.self.inside.sessions) c.remove_at-in-RequestScoped.ensures.removed
    ∙ request_gone c.self.inside.application c.self.inside.requests c.self.inside.sessions c.args.env c.remove_at-in-RequestScoped.ensures.apart
    ∙ ap (λ s. without_env c.args.env scopes.RequestScoped s) c.self.view_is ∙ ap (λ scope. without_env c.args.env scope c.args.self.now) (sym c.in-RequestScoped.is)
