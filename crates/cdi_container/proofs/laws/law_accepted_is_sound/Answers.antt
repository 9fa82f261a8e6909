use Rattle.cdi_bodies.specs.Table.{entries_of}
use Rattle.cdi_machine.specs.Registered.{legal_of}
use Rattle.cdi_container.proofs.Faultless.{is_faultless}
use Rattle.cdi_container.proofs.Sound.{sound}
use Rattle.cdi_container.proofs.laws.law_accepted_is_sound.Goals as goal

pub returns : goal.returns
returns g c deployment tables accepted =
    let entries = entries_of c.args.bodies.now in
    let apart = c.law_farewells_begin_once.ensures.apart tables (is_faultless entries deployment tables accepted) in
    sound tables (legal_of entries) accepted.fits apart.0 apart.1
