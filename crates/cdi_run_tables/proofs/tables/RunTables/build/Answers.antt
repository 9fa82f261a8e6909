use Rattle.cdi_run_tables.proofs.tables.RunTables.build.Goals as goal

pub build-requires-2-clause-names : goal.build-requires-2-clause-names
build-requires-2-clause-names g c = rw c.in_ok-made.ensures.deployment c.requires.names
