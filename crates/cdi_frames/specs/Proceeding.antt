-- How a body goes on with the rest of its chain.
use Rattle.std.specs.Prelude.{List, Bool, true, false, not, ◌||◌, Option, Some, None}
use Rattle.cdi_base.specs.declared.value.Value.{Value}
use Rattle.cdi_base.specs.declared.act.Act.TheVariants as acts
use Rattle.cdi_base.specs.declared.built_in.BuiltIn.{BuiltIn}
use Rattle.cdi_base.specs.declared.built_in.BuiltIn.TheVariants as built_in
use Rattle.cdi_machine.specs.Bodies.{after_act, fits, repeats}
use Rattle.cdi_machine.specs.Programs.{Running}
use Rattle.cdi_machine.specs.World.{World, Change, Invocation, after_change}

-- why it may not: the number of its values is wrong, or it has proceeded, and its chain is run once
abbrev pub refusal_for : Bool → Bool → Option BuiltIn
refusal_for false y = Some built_in.IllegalArgumentException
refusal_for true false = Some built_in.IllegalStateException
refusal_for true true = None

abbrev pub refusal_in : Running → Option (List Value) → Option Invocation → Option BuiltIn
refusal_in r args None = Some built_in.IllegalStateException
refusal_in r args (Some v) = refusal_for (fits v.parameters args) (repeats v.role || not r.proceeded)

-- the body, once it has tried
abbrev pub having_tried : Running → Option (List Value) → Running
having_tried r args = after_act r (acts.Proceed args)

-- the invocation has other parameters, if there are any
abbrev pub with_replaced : Option (List Value) → World → World
with_replaced None w = w
with_replaced (Some args) w = after_change (Change.Replace args) w
