use Rattle.std.proofs.Common.{rules, ◌≡◌, refl, codes, string_bytes, [], Some}
use Rattle.std.proofs.lemmas.Result.{IfOk-weaker}
use Rattle.cdi_findings.specs.declared.finding.FindingKind.TheVariants as finding_kinds
use Rattle.cdi_findings.proofs.findings.repeated_line.Goals as goal

pub returns : goal.returns
returns c =
    let message_is : c.deref.result.now ≡ string_bytes c.in_ok-message.message = search rules in
    IfOk-weaker c.finding_line.result _ _ (λ line is. record {
      told = record { kind = finding_kinds.Warning; name = codes "RepeatedKey"; place = []; position = Some c.args.repeated.now.position; message = c.deref.result.now; candidates = [] };
      kind = refl;
      name = refl;
      place = refl;
      position = refl;
      message = rw message_is (rw c.as_str-key.ensures at c.in_ok-message.ensures.ok);
      candidates = refl;
      is = is;
    }) c.finding_line.ensures
