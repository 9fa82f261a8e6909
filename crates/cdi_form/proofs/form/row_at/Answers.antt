use Rattle.std.proofs.Common.{◌∙◌, sym, ap, option_map, find, bytes_eq}
use Rattle.cdi_form.specs.Table.{row_of}
use Rattle.cdi_form.proofs.Finds.{find-map}
use Rattle.cdi_form.proofs.form.row_at.Goals as goal

pub returns : goal.returns
returns c =
    ap (option_map row_of) (c.copied.ensures ∙ c.row_in.ensures) ∙ sym (find-map row_of (λ row. bytes_eq row.key c.args.key.now) c.rows.result.now)
    ∙ ap (find (λ row. bytes_eq row.key c.args.key.now)) c.rows.ensures
