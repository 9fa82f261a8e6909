use Rattle.std.proofs.Common.{arith, false, ◌<◌}
use Rattle.std.proofs.lemmas.Grind.{common_steps}
use Rattle.std.proofs.lemmas.Fmt.{hex_byte}
use Rattle.cdi_program.proofs.shown.control_text.Goals as goal

pub returns-in_default : goal.returns-in_default
returns-in_default c =
    let small : c.args.c < 256 = grind (arith, common_steps) in
    let hex = hex_byte false c.args.c small in
    grind (arith, common_steps, hex)
