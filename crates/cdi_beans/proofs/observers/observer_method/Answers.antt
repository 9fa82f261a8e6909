use Rattle.std.proofs.Common.{◌∙◌, FitsSigned, w64, refl, rules}
use Rattle.std.proofs.lemmas.Int.{to_z-of_z}
use Rattle.cdi_beans.proofs.observers.observer_method.Goals as goal

pub returns : goal.returns
returns c =
    let fits : FitsSigned w64 c.priority_of.result = search rules in
    record {
      of_bean = refl;
      of_class = refl;
      name = refl;
      type = refl;
      set = rw c.as_slice.ensures at c.in_ok-set_of.ensures;
      priority = to_z-of_z w64 c.priority_of.result fits ∙ c.priority_of.ensures;
      if_exists = refl;
    }
