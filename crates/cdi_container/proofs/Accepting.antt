-- A deployment without problems that is as one that was read is accepted.
use Rattle.std.proofs.Common.{◌≡◌, List, [], true, is_some, refl, sym, ap, subst}
use Rattle.cdi_bodies.specs.Gives.{lookups_of}
use Rattle.cdi_bodies.specs.declared.entry.Entry.{Entry}
use Rattle.cdi_body_check.specs.Shapes.{shape_of}
use Rattle.cdi_check.specs.Late.{AreLateProblems, AreProblemsIn}
use Rattle.cdi_check.specs.Problems.{AreProblemsOf}
use Rattle.cdi_check.specs.Tables.{setting_by}
use Rattle.cdi_deployment.specs.declared.deployment.Deployment.{Deployment}
use Rattle.cdi_problems.specs.declared.problem.Problem.{Problem}
use Rattle.cdi_run_tables.specs.Machine.{AreIdsOf}
use Rattle.cdi_run_tables.specs.Planned.{IsTabled}
use Rattle.cdi_run_tables.proofs.WellFormed.{parts_of}
use Rattle.cdi_run_tables.specs.declared.tables.RunTables.{RunTables}
use Rattle.cdi_runtime.specs.Knowing.{DrivesRegistered}
use Rattle.cdi_resolve.specs.declared.bean_tables.BeanTables.{BeanTables}
use Rattle.cdi_accepted.specs.Accepted.{IsFaultless, WholeFits, WholeIsRegistered}
use Rattle.cdi_container.specs.Accepted.{AreTablesWith, IsAccepted, is_well_formed}

module _ {X : Type 0} {F : X → Type 0} {g : _} (entries : List (Entry X F g)) where
  pub accepted : (t : RunTables) → AreTablesWith t.deployment entries t → is_well_formed t ≡ true
      → AreProblemsIn t.deployment (shape_of entries) t.tables.enabled (setting_by t.deployment t.tables) []
      → WholeFits entries → WholeIsRegistered entries → DrivesRegistered entries → IsAccepted t.deployment entries t
  accepted t are formed faultless fit registered drives =
      let parts = parts_of t formed in
      let whole : IsFaultless entries t = record { tabled = are.tabled; ids = are.ids; lookups = are.lookups; texts = parts.texts; problems = faultless } in
      let fits = fit t whole in
      record {
        are = are;
        formed = formed;
        servable = record {
          numbered = parts.numbered;
          small = parts.small;
          there = λ asked b e. ap is_some (fits.resolved asked b e).known;
        };
        drives = drives t are.ids (registered t whole);
        fits = fits;
      }

  module _ (d : Deployment) (tables : BeanTables) (problems : List Problem) (none : problems ≡ []) (t : RunTables) (deployment : t.deployment ≡ d) (has : t.tables ≡ tables) where
    -- what is told of the deployment with its tables is told of these
    pub tables_with : AreLateProblems d (shape_of entries) problems → IsTabled t → AreIdsOf entries t → t.lookups ≡ lookups_of entries → AreTablesWith t.deployment entries t
    tables_with late tabled ids lookups =
        let P : List Problem → Type 0 = λ ps. AreLateProblems d (shape_of entries) ps in
        let Q : Deployment → Type 0 = λ k. AreProblemsOf k (shape_of entries) [] in
        record {
          faultless = subst Q (sym deployment) (AreProblemsOf.late (subst P none late));
          deployment_is = refl;
          tabled = tabled;
          ids = ids;
          lookups = lookups;
        }

    pub faultless_by : AreProblemsIn d (shape_of entries) tables.enabled (setting_by d tables) problems
        → AreProblemsIn t.deployment (shape_of entries) t.tables.enabled (setting_by t.deployment t.tables) []
    faultless_by h =
        let P : List Problem → Type 0 = λ ps. AreProblemsIn d (shape_of entries) tables.enabled (setting_by d tables) ps in
        let Q : BeanTables → Type 0 = λ k. AreProblemsIn d (shape_of entries) k.enabled (setting_by d k) [] in
        let R : Deployment → Type 0 = λ k. AreProblemsIn k (shape_of entries) t.tables.enabled (setting_by k t.tables) [] in
        subst R (sym deployment) (subst Q (sym has) (subst P none h))
