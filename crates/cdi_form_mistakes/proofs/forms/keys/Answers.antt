use Rattle.std.proofs.Common.{◌∙◌, ℕ, List, ap, map}
use Rattle.std.specs.Borrow.{Bor}
use Rattle.cdi_form.specs.Table.{Row}
use Rattle.cdi_form_mistakes.proofs.Mapped.{key_texts}
use Rattle.cdi_form_mistakes.proofs.forms.keys.Goals as goal

pub returns : goal.returns
returns c =
    ap (map (λ (key : Bor (List ℕ)). key.now)) c.in_ok-keys_of.ensures ∙ key_texts c.rows.result.now ∙ ap (map (λ (row : Row). row.key)) c.rows.ensures
