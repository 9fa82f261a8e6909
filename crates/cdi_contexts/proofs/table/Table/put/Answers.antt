use Rattle.std.proofs.Common.{◌≡◌, ◌∙◌, ap, sym, subst, Some, None, true≢false}
use Rattle.cdi_base.specs.Maps.{at}
use Rattle.cdi_contexts.specs.Contexts.{Active, active_with, fits}
use Rattle.cdi_contexts.specs.Places.{IsOutline, Replaces}
use Rattle.cdi_contexts.proofs.Entries.{at-changed, at-lookup, put-insert_entry}
use Rattle.cdi_contexts.proofs.Numbers.{fits-listed, replaced, taken_back}
use Rattle.cdi_contexts.proofs.table.Table.put.Goals as goal

pub returns-in_err-add-clause-there : goal.returns-in_err-add-clause-there
returns-in_err-add-clause-there c = λ h.
    let m = c.self.inside.held.entries in
    let fit = ap (λ (a : Active). fits (at a.holds c.args.bean) c.args.held) c.self.view_is ∙ h in
    absurd (true≢false (sym (c.in_err-add.ensures.there (fits-listed m c.args.bean c.args.held c.self.inside.places c.self.invariant.1 fit))))

pub invariant_of-self-in-Ok : goal.invariant_of-self-in-Ok
invariant_of-self-in-Ok c =
    let m = c.self.inside.held.entries in
    let old = c.self.inside.places in
    let between = c.add.new.self in
    let before = c.in-Ok.ensures.old ∙ at-lookup m c.args.bean in
    let replaces = subst (λ o. Replaces c.args.bean o c.args.held between c.replace.new.self) before c.replace.ensures in (
      c.in-Ok.ensures.ordered,
      replaced m c.insert.new.self.entries c.args.bean c.args.held old between c.replace.new.self c.self.invariant.1
          (at-changed m c.insert.new.self.entries c.args.bean (Some c.args.held) c.in-Ok.ensures.updates.0) c.in_ok-add.ensures.ok replaces,
    )

pub invariant_of-self-in-Err : goal.invariant_of-self-in-Err
invariant_of-self-in-Err c =
    let m = c.self.inside.held.entries in
    let none : at m c.args.bean ≡ None = sym (at-lookup m c.args.bean) ∙ c.in-Err.ensures.absent in (
      c.in-Err.ensures.ordered,
      subst (λ es. IsOutline es c.remove.new.self) (sym c.in-Err.ensures.err)
          (taken_back m c.args.bean c.args.held c.self.inside.places c.add.new.self c.remove.new.self c.self.invariant.1 none c.in_ok-add.ensures.ok c.remove.ensures),
    )

pub returns-in-Ok-clause-ok : goal.returns-in-Ok-clause-ok
returns-in-Ok-clause-ok c =
    ap (λ es. record { status = c.self.inside.status; holds = es }) (c.in-Ok.ensures.entries ∙ put-insert_entry c.self.inside.held.entries c.args.bean c.args.held)
    ∙ ap (active_with c.args.bean c.args.held) c.self.view_is

pub returns-in-Err-clause-there : goal.returns-in-Err-clause-there
returns-in-Err-clause-there c = λ h.
    let m = c.self.inside.held.entries in
    let none : at m c.args.bean ≡ None = sym (at-lookup m c.args.bean) ∙ c.in-Err.ensures.absent in
    let fit = ap (λ o. fits o c.args.held) (sym none) ∙ ap (λ (a : Active). fits (at a.holds c.args.bean) c.args.held) c.self.view_is ∙ h in
    fit
