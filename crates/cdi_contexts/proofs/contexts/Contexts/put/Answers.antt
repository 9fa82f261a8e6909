use Rattle.std.proofs.Common.{◌∙◌, ap, sym}
use Rattle.cdi_base.specs.declared.scope.Scope.TheVariants as scopes
use Rattle.cdi_contexts.specs.Contexts.{active_with, with_held, has_place}
use Rattle.cdi_contexts.specs.Group.{standing}
use Rattle.cdi_contexts.specs.Standing.{active_in, in_env}
use Rattle.cdi_contexts.proofs.Slots.{ok_then}
use Rattle.cdi_contexts.proofs.ByName.{request_table, session_table, request_change, session_change}
use Rattle.cdi_contexts.proofs.contexts.Contexts.put.Goals as goal

pub returns-in-SessionScoped-clause-ok : goal.returns-in-SessionScoped-clause-ok
returns-in-SessionScoped-clause-ok c =
    ok_then c.put_at.result _ _ c.put_at.ensures.ok (λ e. ap (λ n. standing c.self.inside.application c.self.inside.requests n) e
    ∙ session_change c.self.inside.application c.self.inside.requests c.self.inside.sessions (active_with c.args.bean c.args.held) c.args.env c.put_at.ensures.apart
    ∙ ap (in_env c.args.env scopes.SessionScoped (with_held c.args.bean c.args.held)) c.self.view_is ∙ ap (λ scope. in_env c.args.env scope (with_held c.args.bean c.args.held) c.args.self.now) (sym c.in-SessionScoped.is))

pub returns-in-SessionScoped-clause-there : goal.returns-in-SessionScoped-clause-there
returns-in-SessionScoped-clause-there c = λ h.
    let e = session_table c.self.inside.application c.self.inside.requests c.self.inside.sessions c.args.env c.put_at.ensures.apart
    ∙ ap (λ s. active_in s c.args.env scopes.SessionScoped) c.self.view_is ∙ ap (active_in c.args.self.now c.args.env) (sym c.in-SessionScoped.is) in
    c.put_at.ensures.there (ap (λ o. has_place o c.args.bean c.args.held) e ∙ h)

pub returns-in-RequestScoped-clause-ok : goal.returns-in-RequestScoped-clause-ok
returns-in-RequestScoped-clause-ok c =
    ok_then c.put_at-in-RequestScoped.result _ _ c.put_at-in-RequestScoped.ensures.ok (λ e. ap (λ m. standing c.self.inside.application m c.self.inside.sessions) e
    ∙ request_change c.self.inside.application c.self.inside.requests c.self.inside.sessions (active_with c.args.bean c.args.held) c.args.env c.put_at-in-RequestScoped.ensures.apart
    ∙ ap (in_env c.args.env scopes.RequestScoped (with_held c.args.bean c.args.held)) c.self.view_is ∙ ap (λ scope. in_env c.args.env scope (with_held c.args.bean c.args.held) c.args.self.now) (sym c.in-RequestScoped.is))

pub returns-in-RequestScoped-clause-there : goal.returns-in-RequestScoped-clause-there
returns-in-RequestScoped-clause-there c = λ h.
    let e = request_table c.self.inside.application c.self.inside.requests c.self.inside.sessions c.args.env c.put_at-in-RequestScoped.ensures.apart
    ∙ ap (λ s. active_in s c.args.env scopes.RequestScoped) c.self.view_is ∙ ap (active_in c.args.self.now c.args.env) (sym c.in-RequestScoped.is) in
    c.put_at-in-RequestScoped.ensures.there (ap (λ o. has_place o c.args.bean c.args.held) e ∙ h)
