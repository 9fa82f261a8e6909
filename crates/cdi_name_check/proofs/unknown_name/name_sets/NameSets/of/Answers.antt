use Rattle.cdi_name_check.proofs.unknown_name.name_sets.NameSets.of.Goals as goal

pub returns : goal.returns
returns c = record {
  interfaces = rw c.as_slice.ensures at c.in_ok-interface_names.ensures;
  classes = rw c.as_slice-classes.ensures at c.in_ok-class_names.ensures;
  open_classes = rw c.as_slice-classes.ensures at c.in_ok-open_class_names.ensures;
  bean_classes = rw c.as_slice-classes.ensures at c.in_ok-bean_class_names.ensures;
  interceptors = rw c.as_slice-2.ensures at c.in_ok-interceptor_names.ensures;
  qualifiers = rw c.as_slice-3.ensures at c.in_ok-of.ensures;
  bindings = rw c.as_slice-4.ensures at c.in_ok-of-2.ensures;
}
