use Rattle.std.proofs.Common.{◌≡◌, rules, arith, w64, to_z-of_z}
use mir.Val.{to_z, of_z}
use Rattle.std.specs.Prelude.{codes}
use Rattle.cdi_text.proofs.ReplyLines.{text_printed, null_printed, integer_printed}
use Rattle.cdi_text.proofs.reply_text.value_line.Goals as goal

pub returns-in_ok-null-in-Null : goal.returns-in_ok-null-in-Null
returns-in_ok-null-in-Null c =
    rw c.in-Null.is (rw (c.in_ok-null-in-Null.ensures.room.0, c.in_ok-null-in-Null.ensures.ok, c.in_ok-writer.ensures.before, c.in_ok-writer.ensures.tokens, null_printed (codes "value")) at c.ended.ensures)

pub returns-in-Int : goal.returns-in-Int
returns-in-Int c =
    let back : to_z w64 (of_z w64 c.in-Int.number) ≡ c.in-Int.number = search rules in
    rw c.in-Int.is (rw (c.in_ok-writer.ensures.before, c.in_ok-writer.ensures.tokens, back, integer_printed (codes "value") c.in-Int.number) at c.integer_line.ensures)

pub returns-in_ok-string-in-Text : goal.returns-in_ok-string-in-Text
returns-in_ok-string-in-Text c =
    rw c.in-Text.is (rw (c.in_ok-string-in-Text.ensures.room.0, c.in_ok-string-in-Text.ensures.ok, c.as_str.ensures, c.in_ok-writer.ensures.before, c.in_ok-writer.ensures.tokens, text_printed (codes "value") c.in-Text.text) at c.ended-in-Text.ensures)
