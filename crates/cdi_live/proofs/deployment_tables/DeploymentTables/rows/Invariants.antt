use Rattle.cdi_live.specs.Graphs.{HasRows}
use Rattle.cdi_live.specs.Settings.{setting_of, counts_of}
use Rattle.cdi_live.proofs.deployment_tables.DeploymentTables.rows.Given as goal

abbrev pub invariant-loop-place : goal.invariant-loop-place
invariant-loop-place l = HasRows (setting_of l.self) (counts_of l.self) l.place l.graph
