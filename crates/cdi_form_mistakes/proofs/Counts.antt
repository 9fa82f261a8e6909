-- How many values stand behind the word of a step.
use Rattle.std.proofs.Common.{◌≡◌, List, length, sym, ap}
use Rattle.serde_json.specs.Data.{Data, item}
use Rattle.serde_json.specs.View.{items_view}
use Rattle.serde_json.proofs.Views.{items_len-items_view}
use Rattle.serde_json.specs.declared.value.Value.{Value}
use Rattle.cdi_form_mistakes.specs.Steps.{items_mistake, word_mistake}

pub counted : (word : Data) (xs : List Value) → word_mistake word (length xs) (items_view xs) ≡ items_mistake (item word (items_view xs))
counted word xs = ap (λ n. word_mistake word n (items_view xs)) (sym (items_len-items_view xs))
