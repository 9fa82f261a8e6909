use Rattle.std.proofs.Common.{◌≢◌, []}
use Rattle.std.proofs.lemmas.List.Elements.{All-from_recursion}
use Rattle.cdi_observers.proofs.HeardGroups.{one_answer, none_empty}
use Rattle.cdi_observers.proofs.laws.law_groups.Goals as goal

pub returns : goal.returns
returns c = record {
  one_answer = λ table class qualifiers groups others are are'. one_answer table class qualifiers groups others are are';
  none_empty = λ table class qualifiers groups are. All-from_recursion (λ g. g.observers ≢ []) groups (none_empty table class qualifiers groups are);
}
