use Rattle.std.proofs.Common.{◌∙◌, ap}
use Rattle.cdi_store.specs.NumberEntries.{pairs_in}
use Rattle.cdi_store.proofs.NumberEntries.{pairs-live, ascending-live, below-live}
use Rattle.cdi_store.proofs.number_index.clear_above.Goals as goal

pub returns-clause-ascending : goal.returns-clause-ascending
returns-clause-ascending c = rw c.keep_live.ensures (ascending-live c.args.entries.now.items c.requires.ascending)

pub returns-clause-below : goal.returns-clause-below
returns-clause-below c = rw c.keep_live.ensures (below-live c.args.number c.args.entries.now.items c.requires.below)

pub returns-clause-pairs : goal.returns-clause-pairs
returns-clause-pairs c = ap pairs_in c.keep_live.ensures ∙ pairs-live c.args.entries.now.items
