-- What ties the answers on events, as a container's tables compute them, to the relations of cdi_observers; and the qualifiers
-- of a bean, which stand as a list, to their set.
use Rattle.std.specs.Prelude.{ℕ, ◌≡◌, ◌↔◌, List, map, filter, not, IsTrue, option_and_then, slice_get}
use Rattle.std.specs.List.{filter_map}
use Rattle.cdi_base.specs.declared.uses.Use.{Use}
use Rattle.cdi_bean_check.specs.Qualifiers.{full_uses, IsSetOf}
use Rattle.cdi_beans.specs.declared.bean.Bean.{Bean}
use Rattle.cdi_bodies.specs.Events.{is_any}
use Rattle.cdi_machine.specs.Tables as machine
use Rattle.cdi_observers.specs.Groups.{AreGroupsOf}
use Rattle.cdi_observers.specs.declared.group.ObserverGroup.{ObserverGroup}
use Rattle.cdi_observers.specs.Observers.{IsTableOf, ObserverTable}
use Rattle.cdi_quals.specs.Order.{compare_qualifiers}
use Rattle.cdi_quals.specs.OrderedSet.{IsOrderedSet}
use Rattle.cdi_quals.specs.Qualifiers.{has}
use Rattle.cdi_quals.specs.declared.qualifier.Qualifier.{Qualifier}
use Rattle.cdi_event_tables.specs.Events.{is_subtype, written_use}
use Rattle.cdi_run_tables.specs.Machine.{machine_observer, machine_tables}
use Rattle.cdi_run_tables.specs.Planned.{IsTabled}
use Rattle.cdi_run_tables.specs.declared.tables.RunTables.{RunTables}
use Rattle.cdi_types.specs.Subtype.{IsAcyclic, IsSubtype}
use Rattle.cdi_types.specs.declared.declaration.TypeDeclaration.{TypeDeclaration}

-- a way up is found within as many steps as there are declarations
abbrev pub SubtypesAre : Type 0
SubtypesAre =
    (types : List TypeDeclaration) → IsAcyclic types → (a b : ℕ)
    → IsTrue (is_subtype types a b) ↔ IsSubtype types a b

-- the observers at these places of the table, as the machine has them
abbrev pub machine_group : RunTables → ObserverTable → ObserverGroup → List machine.Observer
machine_group t table g =
    filter_map (λ i. option_and_then (machine_observer t) (slice_get table.observers i))
    g.observers

-- the machine hears the groups of the table of a deployment's observers
abbrev pub GroupsAre : Type 0
GroupsAre =
    (t : RunTables) → IsTabled t → (table : ObserverTable)
    → IsTableOf t.tables.declared.types t.tables.observers t.tables.enabled table
    → (class : ℕ) (uses : List Use) (groups : List ObserverGroup)
    → AreGroupsOf table class (full_uses t.tables.declared.qualifiers uses) groups
    → (machine_tables t).observers class uses ≡ map (machine_group t table) groups

-- the uses that are written are those of the set of an event's qualifiers but Any
abbrev pub WrittenAre : Type 0
WrittenAre =
    (t : RunTables) (uses : List Use) (set : List Qualifier)
    → IsSetOf t.deployment.names t.tables.declared.qualifiers
    (filter (λ u. not (is_any u)) uses) set
    → (machine_tables t).written uses ≡ map written_use set

-- a bean has what the ordered set of its qualifiers has
abbrev pub BeansHaveSets : Type 0
BeansHaveSets =
    (names : List (List ℕ)) (b : Bean) (set : List Qualifier)
    → IsOrderedSet (compare_qualifiers names) b.qualifiers set
    → (required : Qualifier) → has set required ≡ has b.qualifiers required
