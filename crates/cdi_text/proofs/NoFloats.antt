-- No reply has a float.
use Rattle.std.proofs.Common.{◌≡◌, ℕ, pos, negsuc, List, [], ◌∷◌, map, false, refl}
use Rattle.std.specs.Prelude.{codes}
use Rattle.cdi_base.specs.declared.reply.Reply.{Reply}
use Rattle.cdi_base.specs.declared.reply.Reply.TheVariants as replies
use Rattle.cdi_base.specs.declared.value.Value.{Value}
use Rattle.cdi_base.specs.declared.value.Value.TheVariants as values
use Rattle.serde_json.specs.View.{items_of}
use Rattle.serde_json.specs.Written.{has_float, items_have_float}
use Rattle.cdi_text.specs.ReplyText.{number_data, numbers_data, value_data, pair, reply_data}

pub no_float_in_value : (value : Value) → has_float (value_data value) ≡ false
no_float_in_value values.Null = refl
no_float_in_value (values.Int (pos n)) = refl
no_float_in_value (values.Int (negsuc n)) = refl
no_float_in_value (values.Text text) = refl

pub no_float_in_numbers : (numbers : List ℕ) → items_have_float (items_of (map number_data numbers)) ≡ false
no_float_in_numbers [] = refl
no_float_in_numbers (n ∷ ns) = no_float_in_numbers ns

pub no_float_in_reply : (names : List (List ℕ)) (reply : Reply) → has_float (reply_data names reply) ≡ false
no_float_in_reply names (replies.Value value) = rw (no_float_in_value value) refl
no_float_in_reply names (replies.Threw class) = refl
no_float_in_reply names replies.Done = refl
no_float_in_reply names (replies.Live numbers) = rw (no_float_in_numbers numbers) refl
no_float_in_reply names (replies.Refused refusal) = refl
no_float_in_reply names (replies.Halted cause) = refl

pub no_float_in_live : (numbers : List ℕ) → has_float (pair (codes "live") (numbers_data numbers)) ≡ false
no_float_in_live numbers = rw (no_float_in_numbers numbers) refl
