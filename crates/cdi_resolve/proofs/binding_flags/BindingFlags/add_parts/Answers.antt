use Rattle.std.proofs.Common.{◌∙◌, ◌+◌, drop, sym, ap}
use Rattle.std.proofs.lemmas.List.{drop_all}
use Rattle.std.specs.Option.{option_or}
use Rattle.cdi_beans.specs.ManagedQualifiers.{qualifiers_in}
use Rattle.cdi_resolve.specs.BindingFlags.{flags_at, first_flags}
use Rattle.cdi_resolve.proofs.Flags.{goes_on, at_end, next}
use Rattle.cdi_resolve.proofs.binding_flags.BindingFlags.add_parts.Goals as goal

pub loop-part-preserved : goal.loop-part-preserved
loop-part-preserved c = λ name.
    let parts = c.args.parts.now in
    let i = c.loop-part.part-index in
    let part = c.part-item.result in
    goes_on name (flags_at c.loop-part.self name) (flags_at c.add_all.new.self name) part.value (qualifiers_in (drop (i + 1) parts)) _ (c.in_ok-add_all.ensures name ∙ ap (λ xs. option_or (flags_at c.loop-part.self name) (first_flags name xs)) (c.as_slice.ensures ∙ c.deref.ensures))
    (sym (ap (λ xs. option_or (flags_at c.loop-part.self name) (first_flags name (qualifiers_in xs))) (next parts i part c.loop-part-test.true c.part-item.is)) ∙ c.loop-part.invariant name)

pub returns : goal.returns
returns c = λ name. at_end name (flags_at c.loop-part.self name) _ _ (ap qualifiers_in (drop_all c.loop-part.part-index c.args.parts.now c.loop-part-test.false)) (c.loop-part.invariant name)
