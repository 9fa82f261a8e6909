use Rattle.std.proofs.Common.{◌≡◌, ◌∙◌, true, Ordering, Less, Equal, Greater, refl, sym}
use Rattle.std.specs.Ordering.{is_eq}
use Rattle.cdi_quals.proofs.Orders.{values_apart}
use Rattle.cdi_cache.proofs.value.is_same_value.Goals as goal

equal : (o : Ordering) → is_eq o ≡ true → o ≡ Equal
equal Less e = absurd cc
equal Equal e = refl
equal Greater e = absurd cc

pub returns : goal.returns
returns c = λ e. values_apart c.args.a.now c.args.b.now (sym c.compare_values.ensures ∙ equal c.compare_values.result (sym c.is_eq.ensures ∙ e))
