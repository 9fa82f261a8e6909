-- What owns no memory, so that a copy of it needs none.
use Rattle.std.specs.Prelude.{Bool, true, false, None}
use Rattle.cdi_base.specs.declared.act.Act.{Act}
use Rattle.cdi_base.specs.declared.act.Act.TheVariants as acts
use Rattle.cdi_base.specs.declared.act.Answer.{Answer}
use Rattle.cdi_base.specs.declared.act.Answer.TheVariants as answers
use Rattle.cdi_base.specs.declared.value.Value.{Value}
use Rattle.cdi_base.specs.declared.value.Value.TheVariants as values

-- a value that is no text
abbrev pub is_plain_value : Value → Bool
is_plain_value values.Null = true
is_plain_value (values.Int n) = true
is_plain_value (values.Text text) = false

-- an act with no text and no list
abbrev pub is_plain_act : Act → Bool
is_plain_act (acts.Set field value) = is_plain_value value
is_plain_act (acts.Read via) = true
is_plain_act (acts.Write via value) = is_plain_value value
is_plain_act (acts.Proceed None) = true
is_plain_act (acts.Find lookup) = true
is_plain_act (acts.Keep key value) = is_plain_value value
is_plain_act (acts.Peek key) = true
is_plain_act (acts.Destroy local) = true
is_plain_act (acts.Give value) = is_plain_value value
is_plain_act (acts.Throw exception) = true
is_plain_act _ = false

-- an answer with no text
abbrev pub is_plain_answer : Answer → Bool
is_plain_answer (answers.Done value) = is_plain_value value
is_plain_answer (answers.Threw exception text) = false
is_plain_answer (answers.Found local) = true
