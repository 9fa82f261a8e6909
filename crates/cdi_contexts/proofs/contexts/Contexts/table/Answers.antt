use Rattle.std.proofs.Common.{◌∙◌, ap, sym}
use Rattle.cdi_base.specs.declared.scope.Scope.TheVariants as scopes
use Rattle.cdi_contexts.specs.Standing.{active_in}
use Rattle.cdi_contexts.proofs.ByName.{request_table, session_table}
use Rattle.cdi_contexts.proofs.contexts.Contexts.table.Goals as goal

pub returns-in-SessionScoped : goal.returns-in-SessionScoped
returns-in-SessionScoped c =
    c.table.ensures.value ∙ session_table c.self.inside.application c.self.inside.requests c.self.inside.sessions c.args.env c.table.ensures.apart
    ∙ ap (λ s. active_in s c.args.env scopes.SessionScoped) c.self.view_is ∙ ap (active_in c.args.self.now c.args.env) (sym c.in-SessionScoped.is)

pub returns-in-RequestScoped : goal.returns-in-RequestScoped
returns-in-RequestScoped c =
    c.table-in-RequestScoped.ensures.value ∙ request_table c.self.inside.application c.self.inside.requests c.self.inside.sessions c.args.env c.table-in-RequestScoped.ensures.apart
    ∙ ap (λ s. active_in s c.args.env scopes.RequestScoped) c.self.view_is ∙ ap (active_in c.args.self.now c.args.env) (sym c.in-RequestScoped.is)
