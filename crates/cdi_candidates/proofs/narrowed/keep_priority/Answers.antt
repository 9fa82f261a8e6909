use Rattle.std.proofs.Common.{rules}
use Rattle.std.proofs.lemmas.Fn.{filter_same}
use Rattle.cdi_resolve.specs.Filters.{has_priority}
use Rattle.cdi_candidates.proofs.narrowed.keep_priority.Goals as goal

pub returns : goal.returns
returns c = filter_same _ (λ b. has_priority c.args.priority b.1) _ (λ x b f' k. search rules) _ _ c.retain.ensures.filtered
