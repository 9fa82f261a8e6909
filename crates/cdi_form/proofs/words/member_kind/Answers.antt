use Rattle.std.proofs.Common.{◌∙◌, Bool, sym, ap, option_map, bytes_eq, find}
use Rattle.cdi_form.specs.declared.form.Kind.{Kind}
use Rattle.cdi_form.specs.Words.{Word, word_of}
use Rattle.cdi_form.proofs.Finds.{find-map}
use Rattle.cdi_form.proofs.words.member_kind.Goals as goal

pub returns : goal.returns
returns c =
    let test : Word Kind → Bool = λ w. bytes_eq w.text c.args.text.now in
    c.meaning_in.ensures
    ∙ ap (option_map (λ w. w.meaning)) (sym (find-map word_of test c.member_kinds.result.now) ∙ ap (find test) c.member_kinds.ensures)
