use Rattle.std.proofs.Common.{◌∙◌, Some, sym, ap}
use Rattle.cdi_base.specs.declared.value.Value.{Value}
use Rattle.cdi_host.proofs.Data.{get_is, absent_is}
use Rattle.cdi_host.proofs.invocation.value_in.Goals as goal

pub returns-then-has : goal.returns-then-has
returns-then-has c =
    ap (λ (v : Value). Some v) c.get.ensures
    ∙ get_is c.args.kept.now c.args.key (sym c.has.ensures ∙ c.if-has.true)

pub returns-else-has : goal.returns-else-has
returns-else-has c = absent_is c.args.kept.now c.args.key (sym c.has.ensures ∙ c.if-has.false)
