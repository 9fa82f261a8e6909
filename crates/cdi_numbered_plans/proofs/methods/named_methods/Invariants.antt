use Rattle.std.proofs.Common.{◌≡◌, ℕ, option_map, take}
use Rattle.cdi_base.specs.Maps.{at}
use Rattle.cdi_event_tables.specs.Ids.{id_in}
use Rattle.cdi_method_maps.specs.NamedMethods.{method_named}
use Rattle.cdi_numbered_plans.specs.Machine.{machine_methods}
use Rattle.cdi_numbered_plans.specs.Methods.{method_by}
use Rattle.cdi_numbered_plans.proofs.methods.named_methods.Given as goal

-- the first of each name among those that were looked at
abbrev pub invariant-loop-method : goal.invariant-loop-method
invariant-loop-method l =
    (name : ℕ) → method_named name l.named ≡ option_map method_by (at (machine_methods (id_in l.ids) (take l.method-index l.methods)) name)
