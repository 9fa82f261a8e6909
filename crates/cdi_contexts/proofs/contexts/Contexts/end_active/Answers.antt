use Rattle.std.proofs.Common.{◌∙◌, ap, sym}
use Rattle.cdi_base.specs.declared.scope.Scope.TheVariants as scopes
use Rattle.cdi_contexts.specs.Contexts.{ending_active, with_ending}
use Rattle.cdi_contexts.specs.Group.{standing}
use Rattle.cdi_contexts.specs.Standing.{in_env}
use Rattle.cdi_contexts.proofs.ByName.{request_change, session_change}
use Rattle.cdi_contexts.proofs.contexts.Contexts.end_active.Goals as goal

pub returns-in-SessionScoped : goal.returns-in-SessionScoped
returns-in-SessionScoped c =
    ap (λ n. standing c.self.inside.application c.self.inside.requests n) c.end_at.ensures.ended
    ∙ session_change c.self.inside.application c.self.inside.requests c.self.inside.sessions ending_active c.args.env c.end_at.ensures.apart
    ∙ ap (λ s. in_env c.args.env scopes.SessionScoped with_ending s) c.self.view_is ∙ ap (λ scope. in_env c.args.env scope with_ending c.args.self.now) (sym c.in-SessionScoped.is)

pub returns-in-RequestScoped : goal.returns-in-RequestScoped
returns-in-RequestScoped c =
    ap (λ m. standing c.self.inside.application m c.self.inside.sessions) c.end_at-in-RequestScoped.ensures.ended
    ∙ request_change c.self.inside.application c.self.inside.requests c.self.inside.sessions ending_active c.args.env c.end_at-in-RequestScoped.ensures.apart
    ∙ ap (λ s. in_env c.args.env scopes.RequestScoped with_ending s) c.self.view_is ∙ ap (λ scope. in_env c.args.env scope with_ending c.args.self.now) (sym c.in-RequestScoped.is)
