use Rattle.std.proofs.Common.{◌∙◌, ap}
use Rattle.std.specs.List.{list_any}
use Rattle.cdi_name_check.specs.NameSets.{same_pair}
use Rattle.cdi_shape_check.specs.OwnParts.{has_field, injected_field}
use Rattle.cdi_shape_check.proofs.SameParts.{same_parts}
use Rattle.cdi_shape_check.proofs.own.OwnTables.of_interceptor.Goals as goal

pub returns : goal.returns
returns c =
    same_parts _ _ _ _ _ _ (λ name. c.in_ok-names_of.ensures.same name ∙ ap (has_field name) c.as_slice.ensures)
    (ap (λ fs name. injected_field name fs) (c.in_ok-of.ensures ∙ c.as_slice-2.ensures))
    (λ name count. ap (list_any (same_pair (name, count))) c.new.ensures.empty)
