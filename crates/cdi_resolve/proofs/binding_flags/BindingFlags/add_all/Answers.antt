use Rattle.std.proofs.Common.{◌∙◌, ◌+◌, drop, sym, ap}
use Rattle.std.proofs.lemmas.List.{drop_all}
use Rattle.std.specs.Option.{option_or}
use Rattle.cdi_resolve.specs.BindingFlags.{flags_at, first_flags}
use Rattle.cdi_resolve.proofs.Flags.{goes_on_one, at_end, next}
use Rattle.cdi_resolve.proofs.binding_flags.BindingFlags.add_all.Goals as goal

pub loop-qualifier-preserved : goal.loop-qualifier-preserved
loop-qualifier-preserved c = λ name.
    let qs = c.args.qualifiers.now in
    let i = c.loop-qualifier.qualifier-index in
    let q = c.qualifier-item.result in
    goes_on_one name (flags_at c.loop-qualifier.self name) (flags_at c.add.new.self name) q (drop (i + 1) qs) _ (c.in_ok-add.ensures name)
    (sym (ap (λ xs. option_or (flags_at c.loop-qualifier.self name) (first_flags name xs)) (next qs i q c.loop-qualifier-test.true c.qualifier-item.is)) ∙ c.loop-qualifier.invariant name)

pub returns : goal.returns
returns c = λ name. at_end name (flags_at c.loop-qualifier.self name) _ _ (drop_all c.loop-qualifier.qualifier-index c.args.qualifiers.now c.loop-qualifier-test.false) (c.loop-qualifier.invariant name)
