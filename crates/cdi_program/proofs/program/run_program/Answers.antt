use Rattle.std.proofs.Common.{List, map, refl}
use Rattle.clap.specs.Words.{Text, kind_of}
use Rattle.cdi_program.specs.Program.RunsWords.{serves}
use Rattle.cdi_program.proofs.Usage.{usage}
use Rattle.cdi_program.proofs.program.run_program.Goals as goal

pub returns-in-Ok-parse : goal.returns-in-Ok-parse
returns-in-Ok-parse g c = rw c.in-Ok.is (serves _ c.in-Ok-parse.ensures.ok c.serve_options.ensures)

pub returns-in-Err-parse : goal.returns-in-Err-parse
returns-in-Err-parse g c =
    let words : List Text = map g.S.AsStr.text c.in-Ok.words.now in
    rw c.in-Ok.is (usage (g.F.Files.gives c.args.files.now) (g.F.Files.refuses c.args.files.now) words (kind_of c.in-Err-parse.error) _ c.answer_usage.result c.in-Err-parse.ensures.err c.answer_usage.ensures)

pub returns-in-Err : goal.returns-in-Err
returns-in-Err g c = rw c.in-Err.is (record { is_untouched = record { input = refl; output = refl }; tells = rw c.text.ensures at c.tell.ensures; is_status = c.status.ensures })
