use Rattle.cdi_frames.proofs.Stacks.{steps_run}
use Rattle.cdi_frames.proofs.run.law_steps.Goals as goal

pub returns-clause-whole : goal.returns-clause-whole
returns-clause-whole g c = λ a b w u v o r h. steps_run (g.T.Tables.tables c.args._tables.now) (g.D.Driver.legal c.args._driver.now) ⊥ a b w u r o v h

pub returns-clause-short : goal.returns-clause-short
returns-clause-short g c = λ a b w u v o r h. steps_run (g.T.Tables.tables c.args._tables.now) (g.D.Driver.legal c.args._driver.now) (Unit {0}) a b w u r o v h
