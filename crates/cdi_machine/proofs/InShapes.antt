-- What registered bodies give lies in their shapes, in which there is always an act.
use Rattle.std.proofs.Common.{refl, List, arith}
use Rattle.cdi_base.specs.declared.act.Act.TheVariants as acts
use Rattle.cdi_base.specs.declared.value.Value.TheVariants as values
use Rattle.cdi_bodies.specs.declared.chooser.Chooser.{Chooser}
use Rattle.cdi_bodies.specs.declared.entry.Entry.{Entry}
use Rattle.cdi_bodies.specs.Gives.{LieInShape}
use Rattle.cdi_machine.specs.Tables.{Tables}
use Rattle.cdi_machine.specs.Runs.{Legal}
use Rattle.cdi_machine.specs.Laws.{Ends, IsServed, IsWithin, OnItsWay}
use Rattle.cdi_machine.specs.Registered.{chosen_by, in_shapes}
use Rattle.cdi_machine.proofs.Ending.{ends, on_its_way}

pub keep_their_shapes : {X : Type 0} {F : X → Type 0} {g : _} {Y : Type 0} {G : Y → Type 0} {h : _} (entries : List (Entry X F g)) (chooser : Chooser Y G h) → LieInShape entries → IsWithin (chosen_by entries chooser) (in_shapes entries)
keep_their_shapes entries chooser lie = record { act = λ body count fields view a given. lie body fields view a given; pick = λ count written i picked. tt }

-- a value may always be given, and the first be picked
pub served_in_shapes : {X : Type 0} {F : X → Type 0} {g : _} (entries : List (Entry X F g)) → IsServed (in_shapes entries)
served_in_shapes entries = record { act = λ body count fields view. (acts.Give values.Null, refl); pick = λ count written several. (0, omega arith, tt) }

pub ends_in_shapes : {X : Type 0} {F : X → Type 0} {g : _} (entries : List (Entry X F g)) (tables : Tables) → Ends tables (in_shapes entries)
ends_in_shapes entries tables = ends tables (in_shapes entries) (served_in_shapes entries)

pub on_its_way_in_shapes : {X : Type 0} {F : X → Type 0} {g : _} (legal : Legal) (entries : List (Entry X F g)) (tables : Tables) → OnItsWay tables legal (in_shapes entries)
on_its_way_in_shapes legal entries tables = on_its_way tables legal (in_shapes entries) (served_in_shapes entries)
