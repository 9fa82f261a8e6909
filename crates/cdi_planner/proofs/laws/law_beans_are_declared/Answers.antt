use Rattle.cdi_planner.proofs.Apart.{apart}
use Rattle.cdi_planner.proofs.Declared.{declared}
use Rattle.cdi_planner.proofs.laws.law_beans_are_declared.Goals as goal

pub returns : goal.returns
returns c = λ d list made. declared d made.qualifiers made.bindings list (apart d made.names_well) made.is
