use Rattle.std.proofs.Common.{◌≡◌, ◌++◌, take}
use Rattle.std.specs.List.{flat_map}
use Rattle.cdi_body_check.specs.Sites.{class_sites, shown}
use Rattle.cdi_body_check.proofs.site.add_of_classes.Given as goal

abbrev pub invariant-loop-class : goal.invariant-loop-class
invariant-loop-class l = shown l.sites.items ≡ shown l.initial.sites.items ++ flat_map class_sites (take l.class-index l.classes)
