use Rattle.std.proofs.Common.{◌≡◌, ℕ, nat_eq, option_map, take}
use Rattle.std.specs.HashMap.{get}
use Rattle.cdi_types.specs.Line.{class_named}
use Rattle.cdi_live.specs.FieldNeeds.{needs_of_fields}
use Rattle.cdi_live.specs.Settings.{setting_of}
use Rattle.cdi_live.proofs.field_needs.FieldNeeds.build.Given as goal

abbrev pub invariant-loop-class : goal.invariant-loop-class
invariant-loop-class l = (name : ℕ) → get nat_eq l.lists name ≡ option_map (needs_of_fields (setting_of l.tables)) (class_named (take l.class-index l.class-items) name)
