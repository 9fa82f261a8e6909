use Rattle.std.proofs.Common.{[], ◌∷◌, to_z-of_z, append_assoc}
use Rattle.json.specs.Token.{number, end_array}
use Rattle.std.specs.Fmt.{signed_decimal}
use Rattle.cdi_text.proofs.reply_text.integer_line.Goals as goal

pub returns : goal.returns
returns c =
    rw (c.in_ok-i64.ensures.room.0, c.in_ok-i64.ensures.ok, to_z-of_z c.ranges.number, append_assoc c.args.writer.tokens (number (signed_decimal c.args.number) ∷ []) (end_array ∷ [])) at c.ended.ensures
