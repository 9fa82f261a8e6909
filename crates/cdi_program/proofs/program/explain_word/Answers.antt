use Rattle.std.proofs.Common.{rules, ◌≡◌, refl, string_bytes}
use Rattle.cdi_program.specs.Program.Explains.{answers_word, starves}
use Rattle.cdi_program.proofs.program.explain_word.Goals as goal

pub returns-in-Ok-Known : goal.returns-in-Ok-Known
returns-in-Ok-Known g c =
    let same : c.deref.result.now ≡ string_bytes c.in-Ok-Known.text = search rules in
    answers_word c.in-Ok-Known.field-0 c.in-Ok-Known.ensures (rw c.in-Ok-Known.field-0-is (rw same at c.show.ensures))

pub returns-in-Ok-Unknown : goal.returns-in-Ok-Unknown
returns-in-Ok-Unknown g c =
    let same : c.deref-in-Ok-Unknown.result.now ≡ string_bytes c.in-Ok-Unknown.line = search rules in
    answers_word c.in-Ok-Unknown.field-0 c.in-Ok-Unknown.ensures (rw c.in-Ok-Unknown.field-0-is (rw same at c.tell_text.ensures, record { input = refl; output = refl }, refl))

pub returns-in-Err : goal.returns-in-Err
returns-in-Err g c = starves (record { input = refl; output = refl }) (rw c.text.ensures at c.tell.ensures) refl
