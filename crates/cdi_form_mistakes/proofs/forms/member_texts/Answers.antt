use Rattle.std.proofs.Common.{◌∙◌, ℕ, List, ap, map}
use Rattle.std.specs.Borrow.{Bor}
use Rattle.cdi_form.specs.declared.form.Kind.{Kind}
use Rattle.cdi_form.specs.Words.{Word}
use Rattle.cdi_form_mistakes.proofs.Mapped.{word_texts}
use Rattle.cdi_form_mistakes.proofs.forms.member_texts.Goals as goal

pub returns : goal.returns
returns c =
    ap (map (λ (text : Bor (List ℕ)). text.now)) c.in_ok-texts_of.ensures ∙ word_texts c.member_kinds.result.now ∙ ap (map (λ (word : Word Kind). word.text)) c.member_kinds.ensures
