use Rattle.std.proofs.Common.{◌∙◌, ap, subst, None}
use Rattle.cdi_contexts.specs.Contexts.{active_without}
use Rattle.cdi_contexts.specs.Places.{Takes}
use Rattle.cdi_contexts.proofs.Entries.{at-changed, at-lookup, without-remove_entry}
use Rattle.cdi_contexts.proofs.Numbers.{left}
use Rattle.cdi_contexts.proofs.table.Table.leave.Goals as goal

pub invariant_of-self : goal.invariant_of-self
invariant_of-self c =
    let m = c.self.inside.held.entries in
    let old = c.self.inside.places in
    let before = c.in-Some.ensures.value ∙ at-lookup m c.args.bean in (
      c.in-Some.ensures.ordered,
      left m c.remove.new.self.entries c.args.bean old c.remove-in-Some.new.self c.self.invariant.1
          (at-changed m c.remove.new.self.entries c.args.bean None c.in-Some.ensures.updates.0)
          (subst (λ o. Takes c.args.bean o old c.remove-in-Some.new.self) before c.remove-in-Some.ensures),
    )

pub returns-in-Some : goal.returns-in-Some
returns-in-Some c =
    ap (λ es. record { status = c.self.inside.status; holds = es }) (c.in-Some.ensures.entries ∙ without-remove_entry c.self.inside.held.entries c.args.bean c.self.invariant.0)
    ∙ ap (active_without c.args.bean) c.self.view_is

pub returns-in_default : goal.returns-in_default
returns-in_default c =
    ap (λ es. record { status = c.self.inside.status; holds = es }) (c.in_default.ensures.entries ∙ without-remove_entry c.self.inside.held.entries c.args.bean c.self.invariant.0)
    ∙ ap (active_without c.args.bean) c.self.view_is
