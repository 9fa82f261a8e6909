use Rattle.std.proofs.Common.{◌≡◌, take}
use Rattle.cdi_bean_check.specs.ManagedBeans.{bean_names}
use Rattle.cdi_bean_check.specs.NameSets.{HasNames}
use Rattle.cdi_bean_check.proofs.bean_names.BeanNames.build.Given as goal

abbrev pub invariant-loop-class : goal.invariant-loop-class
invariant-loop-class l = record { has : HasNames l.names l.set; are : l.names ≡ bean_names (take l.class-index l.classes) }
