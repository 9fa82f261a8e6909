use Rattle.std.proofs.Common.{◌≡◌, take, map}
use Rattle.serde_json.specs.View.{view}
use Rattle.cdi_text.specs.ReplyText.{number_data}
use Rattle.cdi_text.proofs.reply_text.numbers_json.Given as goal

abbrev pub invariant-loop-number : goal.invariant-loop-number
invariant-loop-number l = map view l.items.items ≡ map number_data (take l.number-index l.numbers)
