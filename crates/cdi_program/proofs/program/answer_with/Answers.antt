use Rattle.std.proofs.Common.{rules, ◌≡◌, refl, true, false}
use Rattle.cdi_program.specs.Program.AnswersWith.{shows, mistaken}
use Rattle.cdi_program.specs.Statuses.{is_shown}
use Rattle.cdi_program.proofs.Told.{passes}
use Rattle.cdi_program.proofs.program.answer_with.Goals as goal

pub returns-then-not-is_shown : goal.returns-then-not-is_shown
returns-then-not-is_shown g c =
    let is : is_shown c.args.kind ≡ false = search rules in
    mistaken is (passes _ c.write_through.result _ _ (rw c.as_bytes.ensures.value at c.write_through.ensures.bytes) c.write_through.ensures.failed c.write_through.ensures.passed_on)
    (record { input = refl; output = refl }) c.status_of.ensures

pub returns : goal.returns
returns g c =
    let is : is_shown c.args.kind ≡ true = search rules in
    shows is c.show.ensures
