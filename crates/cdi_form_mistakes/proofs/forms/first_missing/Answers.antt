use Rattle.std.proofs.Common.{Some, None}
use Rattle.cdi_form_mistakes.proofs.Mapped.{missing_key}
use Rattle.cdi_form_mistakes.proofs.forms.first_missing.Goals as goal

pub returns-in-Some : goal.returns-in-Some
returns-in-Some c = missing_key c.args.kind _ c.rows.result.now (Some c.in-Some.row.now) c.rows.ensures c.in-Some.ensures

pub returns-in-None : goal.returns-in-None
returns-in-None c = missing_key c.args.kind _ c.rows.result.now None c.rows.ensures c.in-None.ensures
