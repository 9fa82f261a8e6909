-- The tables of an accepted deployment are those of one without problems, by which the laws on whole deployments hold of it.
use Rattle.std.proofs.Common.{ℕ, List, [], Option, refl, sym, subst}
use Rattle.cdi_accepted.proofs.Tables.{one_tables}
use Rattle.cdi_bodies.specs.declared.entry.Entry.{Entry}
use Rattle.cdi_bodies.specs.declared.shape.Shape.{Shape}
use Rattle.cdi_body_check.specs.Shapes.{shape_of}
use Rattle.cdi_check.specs.Late.{AreLateProblems, AreProblemsIn}
use Rattle.cdi_check.specs.Problems.{AreProblemsOf}
use Rattle.cdi_check.specs.Tables.{setting_by}
use Rattle.cdi_deployment.specs.declared.deployment.Deployment.{Deployment}
use Rattle.cdi_enable.specs.Enablement.{enablement_of}
use Rattle.cdi_resolve.specs.BeanTables.{AreTablesOf, bean_tables}
use Rattle.cdi_resolve.specs.declared.bean_tables.BeanTables.{BeanTables}
use Rattle.cdi_beans.specs.declared.declared.DeclaredTables.{DeclaredTables}
use Rattle.cdi_run_tables.proofs.WellFormed.{parts_of}
use Rattle.cdi_run_tables.specs.declared.tables.RunTables.{RunTables}
use Rattle.cdi_accepted.specs.Accepted.{IsFaultless}
use Rattle.cdi_types.specs.Declarations.{declarations_of}
use Rattle.cdi_container.specs.Accepted.{IsAccepted}

-- what is told in the last tier is told of the tables that the deployment has
late_in : (d : Deployment) (shapes : ℕ → Option Shape) (tables : BeanTables) → AreTablesOf d tables → AreLateProblems d shapes []
    → AreProblemsIn d shapes tables.enabled (setting_by d tables) []
late_in d shapes tables are late =
    let declared : DeclaredTables = record { types = declarations_of d; qualifiers = late.qualifiers; bindings = late.bindings } in
    let these : BeanTables = bean_tables d late.list declared (enablement_of late.list) late.flags in
    let those : AreTablesOf d these =
    record {
      list = late.list;
      made = late.made;
      are = record {
        declared = record { types = refl; qualifiers = late.are_qualifiers; bindings = late.are_bindings };
        flags = late.are_flags;
        are = refl;
      };
    } in
    let P : BeanTables → Type 0 = λ t. AreProblemsIn d shapes t.enabled (setting_by d t) [] in
    subst P (one_tables d these tables those are) late.are

-- a deployment without problems has none in the last tier
pub none_in : (d : Deployment) (shapes : ℕ → Option Shape) (tables : BeanTables) → AreTablesOf d tables → AreProblemsOf d shapes []
    → AreProblemsIn d shapes tables.enabled (setting_by d tables) []
none_in d shapes tables are (AreProblemsOf.early told) = absurd (told.some refl)
none_in d shapes tables are (AreProblemsOf.late told) = late_in d shapes tables are told

pub is_faultless : {X : Type 0} {F : X → Type 0} {g : _} (entries : List (Entry X F g)) (d : Deployment) (t : RunTables) → IsAccepted d entries t → IsFaultless entries t
is_faultless entries d t accepted =
    let are = accepted.are in
    let P : Deployment → Type 0 = λ k. AreProblemsOf k (shape_of entries) [] in
    record {
      tabled = are.tabled;
      ids = are.ids;
      lookups = are.lookups;
      texts = (parts_of t accepted.formed).texts;
      problems = none_in t.deployment (shape_of entries) t.tables are.tabled.tables (subst P (sym are.deployment_is) are.faultless);
    }
