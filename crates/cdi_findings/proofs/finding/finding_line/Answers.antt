use Rattle.std.proofs.Common.{◌≡◌, ◌∙◌, ◌++◌, ℕ, List, codes, false, ap, string_bytes}
use Rattle.serde_json.specs.View.{view}
use Rattle.serde_json.specs.Written.{compact_text, has_float}
use Rattle.cdi_findings.specs.Finding as spec
use Rattle.cdi_findings.proofs.NoFloats.{no_float}
use Rattle.cdi_findings.proofs.finding.finding_line.Goals as goal

pub returns : goal.returns
returns c =
    let told = spec.told_by c.args.finding.now in
    let none : has_float (view c.in_ok-finding_json.field-0) ≡ false = ap has_float c.in_ok-finding_json.ensures ∙ no_float told in
    let text : string_bytes c.in_ok-line.line ≡ compact_text (spec.finding_data told) =
    c.in_ok-line.ensures.text none ∙ ap compact_text c.in_ok-finding_json.ensures in
    c.in_ok-push_str.ensures.bytes ∙ ap (λ (l : List ℕ). l ++ codes "\n") text
