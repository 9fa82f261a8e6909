use Rattle.cdi_text.proofs.ReplyLines.{text_printed}
use Rattle.cdi_text.proofs.reply_text.text_line.Goals as goal

pub returns : goal.returns
returns c =
    rw (c.in_ok-string.ensures.room.0, c.in_ok-string.ensures.ok, c.in_ok-writer.ensures.before, c.in_ok-writer.ensures.tokens, text_printed c.args.word.now c.args.text.now) at c.ended.ensures
