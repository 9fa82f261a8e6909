use Rattle.cdi_planner.proofs.Inheriting.{post_constructs_below, pre_destroys_below}
use Rattle.cdi_planner.proofs.laws.law_callbacks_are_inherited.Goals as goal

pub returns-clause-post_construct : goal.returns-clause-post_construct
returns-clause-post_construct c = λ line class. post_constructs_below class line

pub returns-clause-pre_destroy : goal.returns-clause-pre_destroy
returns-clause-pre_destroy c = λ line class. pre_destroys_below class line
