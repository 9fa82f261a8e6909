use Rattle.std.proofs.Common.{◌==◌, sym}
use Rattle.std.proofs.lemmas.Iterator.Adapters.{position_from-zero}
use Rattle.cdi_bodies.proofs.table.place_in.Goals as goal

pub loop-number-init : goal.loop-number-init
loop-number-init g c = sym (position_from-zero (λ e. e.name == c.args.name) c.args.entries.now)
