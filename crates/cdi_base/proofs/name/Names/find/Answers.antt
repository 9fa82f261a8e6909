use Rattle.std.proofs.Common.{◌∙◌, sym, ap, string_bytes, position, bytes_eq}
use Rattle.cdi_base.proofs.Tables.{position-map}
use Rattle.cdi_base.proofs.name.Names.find.Goals as goal

pub returns-in_err-index : goal.returns-in_err-index
returns-in_err-index c =
    rw c.from_residual.ensures (c.in_err-index.ensures.index ∙ sym (position-map (bytes_eq c.args.text.now) string_bytes c.self.inside.texts.keys) ∙ ap (position (bytes_eq c.args.text.now)) c.self.view_is)

pub returns : goal.returns
returns c =
    c.in_ok-index.ensures.index ∙ sym (position-map (bytes_eq c.args.text.now) string_bytes c.self.inside.texts.keys) ∙ ap (position (bytes_eq c.args.text.now)) c.self.view_is
