use Rattle.std.proofs.Common.{◌∙◌, ap}
use Rattle.cdi_store.specs.NumberEntries.{pairs_in}
use Rattle.cdi_store.proofs.NumberEntries.{pairs-live, ascending-live}
use Rattle.cdi_store.proofs.number_index.sweep.Goals as goal

pub returns-clause-ascending : goal.returns-clause-ascending
returns-clause-ascending c = rw c.keep_live.ensures (ascending-live c.args.entries.now.items c.requires)

pub returns-clause-pairs : goal.returns-clause-pairs
returns-clause-pairs c = ap pairs_in c.keep_live.ensures ∙ pairs-live c.args.entries.now.items
