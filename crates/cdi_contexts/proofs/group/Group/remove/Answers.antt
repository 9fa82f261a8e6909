use Rattle.std.proofs.Common.{◌≡◌, ◌∙◌, ap, sym, Some, None}
use Rattle.cdi_base.specs.Maps.{at, without}
use Rattle.cdi_store.proofs.Entries.{at-lookup}
use Rattle.cdi_contexts.proofs.Indexed.{index-removed, index-kept}
use Rattle.cdi_contexts.proofs.Slots.{removed, apart_removed, taken_removed}
use Rattle.cdi_contexts.proofs.group.Group.remove.Goals as goal

pub invariant_of-self : goal.invariant_of-self
invariant_of-self g c =
    let m = c.self.inside.kept.entries in
    let slot = c.args.slot in
    let is = c.shift_remove.ensures.entries ∙ removed m slot c.self.invariant.1 in
    let there : at m slot ≡ Some c.in-Some.kept = sym (c.in-Some.ensures.value ∙ at-lookup m slot) in
    let points = rw c.as_str.ensures at c.remove.ensures in
    rw is (taken_removed c.self.inside.taken c.try_remove.new.self m slot c.self.invariant.0 c.try_remove.ensures.updates, apart_removed m slot c.self.invariant.1, index-removed m slot c.in-Some.kept c.self.inside.names c.remove.new.self c.self.invariant.1 there c.self.invariant.2 points)

pub invariant_of-self-in_default : goal.invariant_of-self-in_default
invariant_of-self-in_default g c =
    let m = c.self.inside.kept.entries in
    let slot = c.args.slot in
    let is = c.shift_remove.ensures.entries ∙ removed m slot c.self.invariant.1 in
    let absent : at m slot ≡ None = sym (c.in_default.ensures.value ∙ at-lookup m slot) in
    rw is (taken_removed c.self.inside.taken c.try_remove.new.self m slot c.self.invariant.0 c.try_remove.ensures.updates, apart_removed m slot c.self.invariant.1, index-kept m slot c.self.inside.names absent c.self.invariant.2)

pub returns-in-Some-clause-removed : goal.returns-in-Some-clause-removed
returns-in-Some-clause-removed g c =
    c.shift_remove.ensures.entries ∙ removed c.self.inside.kept.entries c.args.slot c.self.invariant.1 ∙ ap (without c.args.slot) c.self.view_is

pub returns-in_default-clause-removed : goal.returns-in_default-clause-removed
returns-in_default-clause-removed g c =
    c.shift_remove.ensures.entries ∙ removed c.self.inside.kept.entries c.args.slot c.self.invariant.1 ∙ ap (without c.args.slot) c.self.view_is
