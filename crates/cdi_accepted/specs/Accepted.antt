-- That the tables of an accepted deployment fit its bodies.
use Rattle.std.specs.Prelude.{ℕ, ◌≡◌, true, List, [], Some, None}
use Rattle.cdi_bodies.specs.Gives.{lookups_of}
use Rattle.cdi_bodies.specs.declared.entry.Entry.{Entry}
use Rattle.cdi_body_check.specs.Shapes.{shape_of}
use Rattle.cdi_check.specs.Late.{AreProblemsIn}
use Rattle.cdi_check.specs.Problems.{AreProblemsOf}
use Rattle.cdi_check.specs.Tables.{setting_by}
use Rattle.cdi_whole.specs.Beginnings.{BeginsOnce}
use Rattle.cdi_ledger.specs.Callbacks.{FirstsStandOnce, PlacesOfBodiesAreApart}
use Rattle.cdi_ledger.specs.Ledger.{Item, items_of}
use Rattle.cdi_ledger.specs.Stories.{Story}
use Rattle.cdi_machine.specs.Commands.{Command, task}
use Rattle.cdi_machine.specs.Container.{State, refusal}
use Rattle.cdi_machine.specs.Registered.{legal_of}
use Rattle.cdi_machine.specs.Runs.{Outcome, Runs}
use Rattle.cdi_machine.specs.Tables.{Managed, Bean, Kind, One}
use Rattle.cdi_machine.specs.Words.{Asked}
use Rattle.cdi_machine.specs.World.{World, at_begin}
use Rattle.cdi_run_tables.specs.Machine.{AreIdsOf, machine_tables}
use Rattle.cdi_run_tables.specs.Planned.{IsTabled}
use Rattle.cdi_run_tables.specs.Registered.{HasBodies}
use Rattle.cdi_run_tables.specs.Texts.{has_texts}
use Rattle.cdi_run_tables.specs.declared.tables.RunTables.{RunTables}
use Rattle.cdi_whole.specs.Fits.{Fits, FitsClass}

-- the tables of a deployment that has no problems with these registered bodies, and texts of its exceptions
pub record IsFaultless {X : Type 0} {F : X → Type 0} {g : _} (entries : List (Entry X F g))
    (t : RunTables) : Type 0 where
  pub tabled : IsTabled t
  pub ids : AreIdsOf entries t
  pub lookups : t.lookups ≡ lookups_of entries
  pub texts : has_texts t.deployment ≡ true
  pub problems : AreProblemsIn t.deployment (shape_of entries) t.tables.enabled
      (setting_by t.deployment t.tables) []

-- an accepted deployment's tables with these bodies are such
abbrev pub AcceptedIsFaultless : {X : Type 0} {F : X → Type 0} {g : _} → List (Entry X F g) → Type 0
AcceptedIsFaultless entries =
    (t : RunTables) → AreProblemsOf t.deployment (shape_of entries) []
    → has_texts t.deployment ≡ true → IsTabled t → AreIdsOf entries t
    → t.lookups ≡ lookups_of entries
    → IsFaultless entries t

-- each managed bean to which something resolves: its plan, its methods, its pre-destroy lifecycle
abbrev pub ManagedFit : {X : Type 0} {F : X → Type 0} {g : _} → List (Entry X F g) → Type 0
ManagedFit entries =
    (t : RunTables) → IsFaultless entries t
    → (asked : Asked) (b : ℕ) → (machine_tables t).resolve asked ≡ One b
    → (bean : Bean) → (machine_tables t).bean b ≡ Some bean → (c : Managed) → bean.kind ≡ Kind.Class c
    → FitsClass (machine_tables t) (legal_of entries) c

-- the whole
abbrev pub WholeFits : {X : Type 0} {F : X → Type 0} {g : _} → List (Entry X F g) → Type 0
WholeFits entries =
    (t : RunTables) → IsFaultless entries t → Fits (machine_tables t) (legal_of entries)

-- all bodies that can come to run are registered
abbrev pub WholeIsRegistered : {X : Type 0} {F : X → Type 0} {g : _} → List (Entry X F g) → Type 0
WholeIsRegistered entries = (t : RunTables) → IsFaultless entries t → HasBodies t

-- the bodies of a destruction are told from all others by their places
abbrev pub FarewellsApart : {X : Type 0} {F : X → Type 0} {g : _} → List (Entry X F g) → Type 0
FarewellsApart entries =
    (t : RunTables) → IsFaultless entries t
    → PlacesOfBodiesAreApart (machine_tables t) × FirstsStandOnce (machine_tables t)

-- so each destruction begins its callbacks exactly once
abbrev pub FarewellsBeginOnce : {X : Type 0} {F : X → Type 0} {g : _} → List (Entry X F g) → Type 0
FarewellsBeginOnce entries =
    (t : RunTables) → IsFaultless entries t
    → (s : State) (h : List Item) → Story (machine_tables t) (legal_of entries) s h
    → BeginsOnce (machine_tables t) h

-- also if memory runs out in one more command
abbrev pub FarewellsBeginOnceIfShort : {X : Type 0} {F : X → Type 0} {g : _} → List (Entry X F g) → Type 0
FarewellsBeginOnceIfShort entries =
    (t : RunTables) → IsFaultless entries t
    → (s : State) (h : List Item) (c : Command) (o : Outcome) (v : World)
    → Story (machine_tables t) (legal_of entries) s h
    → refusal (machine_tables t) s c ≡ None
    → (r : Runs (machine_tables t) (legal_of entries) (Unit {0}) (task c) (at_begin s.world) o v)
    → BeginsOnce (machine_tables t) (items_of h r)
