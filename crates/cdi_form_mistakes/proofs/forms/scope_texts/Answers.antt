use Rattle.std.proofs.Common.{◌∙◌, ℕ, List, ap, map}
use Rattle.std.specs.Borrow.{Bor}
use Rattle.cdi_base.specs.declared.scope.Scope.{Scope}
use Rattle.cdi_form.specs.Words.{Word}
use Rattle.cdi_form_mistakes.proofs.Mapped.{word_texts}
use Rattle.cdi_form_mistakes.proofs.forms.scope_texts.Goals as goal

pub returns : goal.returns
returns c =
    ap (map (λ (text : Bor (List ℕ)). text.now)) c.in_ok-texts_of.ensures ∙ word_texts c.scopes.result.now ∙ ap (map (λ (word : Word Scope). word.text)) c.scopes.ensures
