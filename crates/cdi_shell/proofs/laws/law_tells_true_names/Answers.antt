use Rattle.cdi_bodies.specs.Table.{entries_of}
use Rattle.cdi_shell.proofs.Thrown.{tells_true_names}
use Rattle.cdi_shell.proofs.laws.law_tells_true_names.Goals as goal

pub returns : goal.returns
returns g c =
    tells_true_names (entries_of c.args.bodies.now) c.law_accepted_is_sound.ensures c.law_reads_facts.ensures
