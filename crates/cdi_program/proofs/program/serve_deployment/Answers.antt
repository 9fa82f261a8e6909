use Rattle.std.proofs.Common.{◌≡◌, ◌∙◌, sym, true, false}
use Rattle.cdi_program.specs.Program as spec
use Rattle.cdi_program.proofs.program.serve_deployment.Goals as goal

pub returns-then-is_input : goal.returns-then-is_input
returns-then-is_input g c =
    let is : spec.is_input c.args.options.now ≡ true = sym c.is_input.ensures ∙ c.if-is_input.true in
    rw is c.serve_input.ensures

pub returns : goal.returns
returns g c =
    let is : spec.is_input c.args.options.now ≡ false = sym c.is_input.ensures ∙ c.if-is_input.false in
    rw is c.serve_file.ensures
