use Rattle.cdi_bean_check.specs.ManagedBeans.{is_bean}
use Rattle.std.specs.List.{filter}
use Rattle.cdi_planner.proofs.Observing.{all_declared}
use Rattle.cdi_planner.proofs.laws.law_observers_are_declared.Goals as goal

pub returns : goal.returns
returns c = λ d list made. all_declared d made.qualifiers (filter is_bean d.classes) list.observers made.is.observers
