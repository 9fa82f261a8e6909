-- The names that the steps of a script use.
use Rattle.std.specs.Prelude.{ℕ, List, [], ◌∷◌, ◌++◌}
use Rattle.std.specs.List.{flat_map, enumerate_from}
use Rattle.cdi_base.specs.declared.act.Via.{Via}
use Rattle.cdi_base.specs.declared.act.Via.TheVariants as vias
use Rattle.cdi_script.specs.declared.step.Action.{Action}
use Rattle.cdi_script.specs.declared.step.Action.TheVariants as actions
use Rattle.cdi_script.specs.declared.step.Step.{Step}
use Rattle.cdi_name_uses.specs.declared.step_name.ScriptNames.{ScriptNames}
use Rattle.cdi_name_uses.specs.declared.step_name.StepGroup.{StepGroup}
use Rattle.cdi_name_uses.specs.declared.step_name.StepGroup.TheVariants as groups
use Rattle.cdi_name_uses.specs.declared.step_name.StepName.{StepName}

-- the name has to be of the group
abbrev pub name_at : ℕ → StepGroup → ℕ → List StepName
name_at step group name = (record { step = step; group = group; name = name }) ∷ []

-- a reference goes through an injected field, or names nothing
abbrev pub via_names : ℕ → Via → List StepName
via_names step (vias.Field name) = name_at step groups.InjectedField name
via_names step (vias.Param k) = []
via_names step (vias.Local k) = []

abbrev pub action_names : ℕ → Action → List StepName
action_names step (actions.Set field value) = name_at step groups.Field field
action_names step (actions.Call via method args) =
    via_names step via ++ name_at step groups.Method method
action_names step (actions.Own method args) = name_at step groups.Method method
action_names step (actions.Read via) = via_names step via
action_names step (actions.Write via value) = via_names step via
action_names step (actions.Fire class qualifiers value) = name_at step groups.Class class
action_names step (actions.Find bean_type qualifiers) = name_at step groups.Type bean_type
action_names step (actions.Throw exception) = name_at step groups.Exception exception
action_names step _ = []

abbrev pub step_names : ℕ × Step → List StepName
step_names (i, s) = action_names i s.action

-- the names of all steps, in their order
abbrev pub names_in : List Step → List StepName
names_in steps = flat_map step_names (enumerate_from 0 steps)

abbrev pub script_names : ℕ → List Step → ScriptNames
script_names name steps = record { script = name; used = names_in steps }
