-- Lists of items of another length than the forms have.
use Rattle.std.proofs.Common.{◌≡◌, ◌≢◌, ◌≤◌, List, [], ◌∷◌, length, refl, arith}
use Rattle.serde_json.specs.View.{items_view}
use Rattle.serde_json.specs.declared.value.Value.{Value}
use Rattle.cdi_base.specs.declared.command.Command.{Command}
use Rattle.cdi_text.specs.Command.{bad, alone, name_alone, begin_of, call_of, read_of, fire_of}

pub no_more : (command : Command) (xs : List Value) → 1 ≤ length xs → alone command (items_view xs) ≡ bad
no_more command [] h = absurd (omega arith)
no_more command (a ∷ xs) h = refl

pub no_name : (xs : List Value) → length xs ≢ 1 → name_alone (items_view xs) ≡ bad
no_name [] h = refl
no_name (a ∷ []) h = absurd (h (omega arith))
no_name (a ∷ b ∷ xs) h = refl

pub no_begin : (xs : List Value) → length xs ≢ 1 → length xs ≢ 2 → begin_of (items_view xs) ≡ bad
no_begin [] g h = refl
no_begin (a ∷ []) g h = absurd (g (omega arith))
no_begin (a ∷ b ∷ []) g h = absurd (h (omega arith))
no_begin (a ∷ b ∷ c ∷ xs) g h = refl

pub no_read : (xs : List Value) → length xs ≢ 3 → read_of (items_view xs) ≡ bad
no_read [] h = refl
no_read (a ∷ []) h = refl
no_read (a ∷ b ∷ []) h = refl
no_read (a ∷ b ∷ c ∷ []) h = absurd (h (omega arith))
no_read (a ∷ b ∷ c ∷ d ∷ xs) h = refl

pub no_fire : (xs : List Value) → length xs ≢ 4 → fire_of (items_view xs) ≡ bad
no_fire [] h = refl
no_fire (a ∷ []) h = refl
no_fire (a ∷ b ∷ []) h = refl
no_fire (a ∷ b ∷ c ∷ []) h = refl
no_fire (a ∷ b ∷ c ∷ d ∷ []) h = absurd (h (omega arith))
no_fire (a ∷ b ∷ c ∷ d ∷ e ∷ xs) h = refl

pub no_call : (xs : List Value) → length xs ≢ 5 → call_of (items_view xs) ≡ bad
no_call [] h = refl
no_call (a ∷ []) h = refl
no_call (a ∷ b ∷ []) h = refl
no_call (a ∷ b ∷ c ∷ []) h = refl
no_call (a ∷ b ∷ c ∷ d ∷ []) h = refl
no_call (a ∷ b ∷ c ∷ d ∷ e ∷ []) h = absurd (h (omega arith))
no_call (a ∷ b ∷ c ∷ d ∷ e ∷ f ∷ xs) h = refl
