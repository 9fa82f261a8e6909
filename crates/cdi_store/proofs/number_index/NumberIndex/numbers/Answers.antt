use Rattle.std.proofs.Common.{rules, tests}
use Rattle.std.specs.Option.{option_map}
use Rattle.std.proofs.lemmas.Iterator.{items_from_collect, YieldsList-from_slice}
use Rattle.std.proofs.lemmas.Iterator.Consumers.{YieldsList-from_filter_map}
use Rattle.cdi_store.proofs.NumberEntries.{numbers-in}
use Rattle.cdi_store.proofs.number_index.NumberIndex.numbers.Goals as goal

pub returns : goal.returns
returns c =
    let es = c.self.inside.entries.items in
    let all = items_from_collect _ c.collect.ensures.ran (YieldsList-from_filter_map _ (λ e. option_map (λ slot. e.number) e.slot) (YieldsList-from_slice es cc) c.filter_map.ensures.closure (λ x r q k. search (rules, tests))) in
    rw (← c.self.view_is, ← numbers-in es) all
