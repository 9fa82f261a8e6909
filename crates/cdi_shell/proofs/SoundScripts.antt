-- A container of a deployment without problems, whose bodies are scripts, is sound in all that these scripts do.
use Rattle.std.proofs.Common.{ℕ, ◌≡◌, ◌∙◌, ◌&&◌, List, [], true, refl, sym, ap, subst, Option, Some, None, if◌then◌else◌}
use Rattle.std.proofs.lemmas.Bool.{and_parts}
use Rattle.cdi_bodies.specs.Gives.{lookups_of}
use Rattle.cdi_bodies.specs.declared.shape.Shape.{Shape}
use Rattle.cdi_body_check.specs.Shapes.{shape_of}
use Rattle.cdi_body_check.specs.Sites.{sites_of}
use Rattle.cdi_check.specs.Late.{AreProblemsIn}
use Rattle.cdi_check.specs.Problems.{AreProblemsOf}
use Rattle.cdi_check.specs.Tables.{setting_by}
use Rattle.cdi_deployment.specs.declared.deployment.Deployment.{Deployment}
use Rattle.cdi_machine.specs.Registered.{legal_of}
use Rattle.cdi_ledger.specs.Callbacks.{FirstsStandOnce, PlacesOfBodiesAreApart}
use Rattle.cdi_event_tables.specs.Ids.{is_named, told_of}
use Rattle.cdi_run_tables.specs.Machine.{AreIdsOf, machine_tables}
use Rattle.cdi_run_tables.proofs.WellFormed.{parts_of}
use Rattle.cdi_run_tables.specs.declared.tables.RunTables.{RunTables}
use Rattle.cdi_accepted.proofs.Farewells.{farewells_apart}
use Rattle.cdi_accepted.proofs.Whole.{whole_fits}
use Rattle.cdi_accepted.specs.Accepted.{IsFaultless}
use Rattle.cdi_container.proofs.Faultless.{none_in}
use Rattle.cdi_container.proofs.Sound.{sound}
use Rattle.cdi_container.specs.Sound.{IsSound}
use Rattle.cdi_prepare.specs.declared.scripts.NamedScript.{NamedScript}
use Rattle.cdi_prepare.specs.Scripts.{place_under, shape_under}
use Rattle.cdi_prepare.proofs.Holding.{same_place, same_shape}
use Rattle.cdi_report.specs.Reports.{AreProblemsWith}
use Rattle.cdi_base.specs.declared.settings.Order.{Order}
use Rattle.cdi_shell.specs.Drive.{AreTablesWith, IsWellFormedWith, legal_by}
use Rattle.cdi_shell.proofs.LessLegal.{fits_less}
use Rattle.cdi_shell.proofs.Lookups.{same_lookups}
use Rattle.cdi_shell.proofs.StandIns.{are_bodies, gives_next, lie_in_shape, stand_ins}

-- ---- scripts

module _ (order : Order) (ss : List NamedScript) (d : Deployment) (t : RunTables) (none : AreProblemsWith ss d []) (are : AreTablesWith ss d t) (formed : IsWellFormedWith ss d) where
  shapes_are : shape_of (stand_ins ss) ≡ shape_under ss
  shapes_are = λ i name. same_shape (stand_ins ss) ss name (are_bodies ss) i

  shapes_told : none.shape_of ≡ shape_of (stand_ins ss)
  shapes_told = (λ i name. none.shapes name i) ∙ sym shapes_are

  ids_are : AreIdsOf (stand_ins ss) t
  ids_are =
      record {
        told = λ name.
            are.ids name
            ∙ ap (λ (k : Deployment). told_of (place_under ss) (sites_of k) name) (sym are.deployment_is)
            ∙ ap (λ (o : Option ℕ). if is_named (sites_of t.deployment) name then Some o else None) (sym (same_place (stand_ins ss) ss name (are_bodies ss)));
      }

  problems : AreProblemsIn t.deployment (shape_of (stand_ins ss)) t.tables.enabled (setting_by t.deployment t.tables) []
  problems =
      let P : Deployment → Type 0 = λ k. AreProblemsOf k none.shape_of [] in
      let Q : (ℕ → Option Shape) → Type 0 = λ f. AreProblemsOf t.deployment f [] in
      none_in t.deployment (shape_of (stand_ins ss)) t.tables are.tabled.tables (subst Q shapes_told (subst P (sym are.deployment_is) none.are))

  lookups_are : t.lookups ≡ lookups_of (stand_ins ss)
  lookups_are = are.lookups ∙ sym (same_lookups (stand_ins ss) ss (are_bodies ss))

  faultless : IsFaultless (stand_ins ss) t
  faultless =
      record { tabled = are.tabled; ids = ids_are; lookups = lookups_are; texts = (parts_of t (formed t are)).texts; problems = problems }

  pub sound_scripts : IsSound t (legal_by order ss)
  sound_scripts =
      let T = machine_tables t in
      let apart : PlacesOfBodiesAreApart T × FirstsStandOnce T = farewells_apart (stand_ins ss) t faultless in
      sound t (legal_by order ss) (fits_less T (legal_of (stand_ins ss)) (legal_by order ss) (gives_next order ss) (whole_fits (stand_ins ss) (lie_in_shape ss) t faultless)) apart.0 apart.1
