use Rattle.std.proofs.Common.{◌≡◌, ◌∙◌, ◌||◌, true, false, sym, ap}
use Rattle.std.specs.List.{list_any}
use Rattle.cdi_quals.specs.Qualifiers.{has}
use Rattle.cdi_plans.specs.Bindings.{is_met_by_class}
use Rattle.cdi_plans.proofs.Bound.{had_by_either}
use Rattle.cdi_plans.proofs.chain.is_had.Goals as goal

pub returns-then-have : goal.returns-then-have
returns-then-have c =
    let of_class = list_any (is_met_by_class c.args.own.now c.args.required.now) c.args.of_class.now in
    let own : has c.args.own.now c.args.required.now ≡ true = sym c.have.ensures ∙ c.if-have.true in
    c.if-have.true ∙ sym (had_by_either c.args.own.now c.args.of_class.now c.args.required.now ∙ ap (λ t. t || of_class) own)

pub returns-else-have : goal.returns-else-have
returns-else-have c =
    let of_class = list_any (is_met_by_class c.args.own.now c.args.required.now) c.args.of_class.now in
    let own : has c.args.own.now c.args.required.now ≡ false = sym c.have.ensures ∙ c.if-have.false in
    c.class_has.ensures ∙ sym (had_by_either c.args.own.now c.args.of_class.now c.args.required.now ∙ ap (λ t. t || of_class) own)
