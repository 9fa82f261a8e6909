-- What the tables of an own instance tell.
use Rattle.std.specs.Prelude.{nat_eq}
use Rattle.std.specs.HashSet.{contains}
use Rattle.cdi_name_check.specs.NameSets.{same_pair}
use Rattle.cdi_shape_check.specs.OwnParts.{OwnParts, injected_field}
use Rattle.cdi_shape_check.specs.declared.own.OwnTables.{OwnTables}

abbrev pub parts_in : OwnTables → OwnParts
parts_in own = record {
  has_field = λ name. contains nat_eq own.fields name;
  injected = λ name. injected_field name own.injected;
  has_method = λ name count. contains same_pair own.methods (name, count);
}
