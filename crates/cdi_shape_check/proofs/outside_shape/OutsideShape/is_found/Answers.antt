use Rattle.std.proofs.Common.{◌∙◌, sym, ap}
use Rattle.std.specs.Option.{option_copied}
use Rattle.cdi_shape_check.proofs.outside_shape.OutsideShape.is_found.Goals as goal

pub returns-in-Some : goal.returns-in-Some
returns-in-Some g c = c.args.self.now.findings_are c.args.body c.in-Some.told.now (sym c.get.ensures.value ∙ ap option_copied c.in-Some.is)
