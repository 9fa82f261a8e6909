use Rattle.std.proofs.Common.{◌∙◌, sym}
use Rattle.cdi_bodies.specs.Table.{entries_of}
use Rattle.cdi_container.proofs.Accepting.{accepted}
use Rattle.cdi_container.proofs.acceptance.formed.Goals as goal

pub returns-then-is_well_formed-clause-ok : goal.returns-then-is_well_formed-clause-ok
returns-then-is_well_formed-clause-ok g c =
    accepted (entries_of c.args.bodies.now) c.args.tables c.requires.are (sym c.is_well_formed.ensures ∙ c.if-is_well_formed.true) c.requires.faultless c.law_whole_fits.ensures c.law_whole_is_registered.ensures c.law_drives_registered.ensures

pub returns-else-is_well_formed-clause-err : goal.returns-else-is_well_formed-clause-err
returns-else-is_well_formed-clause-err g c = record { tables = c.args.tables; are = c.requires.are; malformed = sym c.is_well_formed.ensures ∙ c.if-is_well_formed.false }
