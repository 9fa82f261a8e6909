use Rattle.std.proofs.Common.{rules, is_some}
use Rattle.std.proofs.lemmas.Fn.{filter_same}
use Rattle.cdi_store.proofs.number_index.keep_live.Goals as goal

pub returns : goal.returns
returns c = filter_same _ (λ e. is_some e.slot) _ (λ x b f' k. search rules) _ _ c.retain.ensures.filtered
