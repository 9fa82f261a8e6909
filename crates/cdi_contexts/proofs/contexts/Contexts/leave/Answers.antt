use Rattle.std.proofs.Common.{◌∙◌, ap, sym}
use Rattle.cdi_base.specs.declared.scope.Scope.TheVariants as scopes
use Rattle.cdi_contexts.specs.Contexts.{active_without, with_nothing}
use Rattle.cdi_contexts.specs.Group.{standing}
use Rattle.cdi_contexts.specs.Standing.{in_env}
use Rattle.cdi_contexts.proofs.ByName.{request_change, session_change}
use Rattle.cdi_contexts.proofs.contexts.Contexts.leave.Goals as goal

pub returns-in-SessionScoped : goal.returns-in-SessionScoped
returns-in-SessionScoped c =
    ap (λ n. standing c.self.inside.application c.self.inside.requests n) c.leave_at.ensures.left
    ∙ session_change c.self.inside.application c.self.inside.requests c.self.inside.sessions (active_without c.args.bean) c.args.env c.leave_at.ensures.apart
    ∙ ap (in_env c.args.env scopes.SessionScoped (with_nothing c.args.bean)) c.self.view_is ∙ ap (λ scope. in_env c.args.env scope (with_nothing c.args.bean) c.args.self.now) (sym c.in-SessionScoped.is)

pub returns-in-RequestScoped : goal.returns-in-RequestScoped
returns-in-RequestScoped c =
    ap (λ m. standing c.self.inside.application m c.self.inside.sessions) c.leave_at-in-RequestScoped.ensures.left
    ∙ request_change c.self.inside.application c.self.inside.requests c.self.inside.sessions (active_without c.args.bean) c.args.env c.leave_at-in-RequestScoped.ensures.apart
    ∙ ap (in_env c.args.env scopes.RequestScoped (with_nothing c.args.bean)) c.self.view_is ∙ ap (λ scope. in_env c.args.env scope (with_nothing c.args.bean) c.args.self.now) (sym c.in-RequestScoped.is)
