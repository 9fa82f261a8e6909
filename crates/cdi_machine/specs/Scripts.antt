-- Bodies for worked runs: scripts of steps.
use Rattle.std.specs.Prelude.{ℕ, pos, ◌+◌, List, [], ◌∷◌, map, Bool, true, false, Option, Some, None, slice_get}
use Rattle.cdi_base.specs.declared.value.Value.{Value}
use Rattle.cdi_base.specs.declared.value.Value.TheVariants as values
use Rattle.cdi_base.specs.declared.act.Act.{Act}
use Rattle.cdi_base.specs.declared.act.Act.TheVariants as acts
use Rattle.cdi_base.specs.declared.act.Via.{Via}
use Rattle.cdi_base.specs.declared.act.Answer.{Answer}
use Rattle.cdi_base.specs.declared.act.Answer.TheVariants as answers
use Rattle.cdi_base.specs.declared.uses.Use.{Use}
use Rattle.cdi_bodies.specs.declared.view.View.{View}
use Rattle.cdi_base.specs.Maps.{at}
use Rattle.cdi_machine.specs.Words.{Name, Fields}

pub data Expression : Type 0 where
  Plain : Value → Expression
  TheField : Name → Expression
  Arg : ℕ → Expression
  Ans : ℕ → Expression
  Last : Expression
  Add : Expression → Expression → Expression

pub data Step : Type 0 where
  set : Name → Expression → Step
  call : Via → Name → List Expression → Step
  own : Name → List Expression → Step
  read : Via → Step
  write : Via → Expression → Step
  fire : Name → List Use → Expression → Step
  proceed : Step
  proceed_with : List Expression → Step
  -- lookup k of the body
  find : ℕ → Step
  keep : Name → Expression → Step
  peek : Name → Step
  destroy : ℕ → Step
  give : Expression → Step
  throw : Name → Step
  -- only after an exception
  catch : Step → Step

abbrev pub or_null : Option Value → Value
or_null None = values.Null
or_null (Some v) = v

abbrev pub sum : Value → Value → Value
sum (values.Int (pos a)) (values.Int (pos b)) = values.Int (pos (a + b))
sum _ _ = values.Null

abbrev pub last_of : Option Answer → List Answer → Option Answer
last_of o [] = o
last_of o (a ∷ more) = last_of (Some a) more

abbrev pub value_of : Option Answer → Value
value_of (Some (answers.Done v)) = v
value_of (Some (answers.Threw x text)) = values.Text text
value_of _ = values.Null

abbrev pub value_by : Fields → View → Expression → Value
value_by fields view (Plain v) = v
value_by fields view (TheField name) = or_null (at fields name)
value_by fields view (Arg k) = or_null (slice_get view.args k)
value_by fields view (Ans k) = value_of (slice_get view.answers k)
value_by fields view Last = value_of (last_of None view.answers)
value_by fields view (Add a b) = sum (value_by fields view a) (value_by fields view b)

abbrev pub act_of : Fields → View → Step → Act
act_of fields view (set name e) = acts.Set name (value_by fields view e)
act_of fields view (call via name es) = acts.Call via name (map (value_by fields view) es)
act_of fields view (own name es) = acts.Own name (map (value_by fields view) es)
act_of fields view (read via) = acts.Read via
act_of fields view (write via e) = acts.Write via (value_by fields view e)
act_of fields view (fire class uses e) = acts.Fire class uses (value_by fields view e)
act_of fields view proceed = acts.Proceed None
act_of fields view (proceed_with es) = acts.Proceed (Some (map (value_by fields view) es))
act_of fields view (find k) = acts.Find k
act_of fields view (keep name e) = acts.Keep name (value_by fields view e)
act_of fields view (peek name) = acts.Peek name
act_of fields view (destroy k) = acts.Destroy k
act_of fields view (give e) = acts.Give (value_by fields view e)
act_of fields view (throw x) = acts.Throw x
act_of fields view (catch step) = act_of fields view step

abbrev pub is_catch : Step → Bool
is_catch (catch step) = true
is_catch _ = false

-- the steps from the next one that is reached on: after an exception a catch, and else none
abbrev pub from_next : Option Answer → List Step → List Step
from_next last [] = []
from_next (Some (answers.Threw x text)) (s ∷ ss) =
    elim (is_catch s) [ true ↦ s ∷ ss | false ↦ from_next (Some (answers.Threw x text)) ss ]
from_next last (s ∷ ss) = elim (is_catch s) [ true ↦ from_next last ss | false ↦ s ∷ ss ]

abbrev pub steps_behind : List Step → List Step
steps_behind [] = []
steps_behind (s ∷ ss) = ss

abbrev pub steps_left : Option Answer → List Answer → List Step → List Step
steps_left last [] steps = from_next last steps
steps_left last (a ∷ more) steps = steps_left (Some a) more (steps_behind (from_next last steps))

abbrev pub at_the_end : Option Answer → Act
at_the_end (Some (answers.Threw x text)) = acts.Throw x
at_the_end _ = acts.Give values.Null

abbrev pub next_step : Fields → View → List Step → Act
next_step fields view [] = at_the_end (last_of None view.answers)
next_step fields view (s ∷ ss) = act_of fields view s

abbrev pub next : List Step → Fields → View → Act
next steps fields view = next_step fields view (steps_left None view.answers steps)
