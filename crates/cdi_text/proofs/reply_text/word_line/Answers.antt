use Rattle.cdi_text.proofs.ReplyLines.{word_printed}
use Rattle.cdi_text.proofs.reply_text.word_line.Goals as goal

pub returns : goal.returns
returns c = rw (c.in_ok-begun.ensures.before, c.in_ok-begun.ensures.tokens, word_printed c.args.word.now) at c.ended.ensures
