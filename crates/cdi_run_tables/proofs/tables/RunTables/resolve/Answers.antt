use Rattle.std.proofs.Common.{◌∙◌, ap}
use Rattle.cdi_run_tables.specs.Machine.{resolution_of}
use Rattle.cdi_run_tables.specs.Seen.{parts_seen}
use Rattle.cdi_run_tables.proofs.tables.RunTables.resolve.Goals as goal

pub returns-in-Some : goal.returns-in-Some
returns-in-Some c =
    c.in-Some.ensures (parts_seen c.self.inside.parts) c.self.invariant.index.asked ∙ ap (λ t. resolution_of t c.args.ty c.args.uses.now) c.self.view_is
