use Rattle.std.proofs.Common.{rules}
use Rattle.std.proofs.lemmas.Fn.{filter_same}
use Rattle.cdi_candidates.proofs.narrowed.keep_alternatives.Goals as goal

pub returns : goal.returns
returns c = filter_same _ (λ b. b.1.alternative) _ (λ x b f' k. search rules) _ _ c.retain.ensures.filtered
