use Rattle.std.proofs.Common.{rules, ◌≡◌, ◌∙◌, refl, string_bytes, []}
use Rattle.std.proofs.lemmas.Result.{IfOk-weaker}
use Rattle.cdi_prepare.specs.Ready.{readied_in}
use Rattle.cdi_findings.specs.Faults.{fault_name}
use Rattle.cdi_findings.specs.declared.finding.FindingKind.TheVariants as finding_kinds
use Rattle.cdi_findings.proofs.findings.fault_line.Goals as goal

pub returns : goal.returns
returns c =
    let lent : c.deref.result.now ≡ string_bytes c.in_ok-name.name = search rules in
    let lent_again : c.deref-2.result.now ≡ string_bytes c.in_ok-name.name = search rules in
    let given : c.deref.result.now ≡ fault_name (readied_in c.args.bytes.now) = lent ∙ c.in_ok-name.ensures in
    let name_is : c.deref-2.result.now ≡ fault_name (readied_in c.args.bytes.now) = lent_again ∙ c.in_ok-name.ensures in
    let message_is : c.deref-3.result.now ≡ string_bytes c.in_ok-message.message = search rules in
    IfOk-weaker c.finding_line.result _ _ (λ line is. record {
      hint = c.in_ok-hint.hint;
      is_hint = c.in_ok-hint.ensures.gives;
      told = record { kind = finding_kinds.Fault; name = c.deref-2.result.now; place = []; position = c.position_of_hint.result; message = c.deref-3.result.now; candidates = [] };
      kind = refl;
      name = name_is;
      place = refl;
      position = c.position_of_hint.ensures;
      message = rw message_is (rw given at c.in_ok-message.ensures);
      candidates = refl;
      is = is;
    }) c.finding_line.ensures
