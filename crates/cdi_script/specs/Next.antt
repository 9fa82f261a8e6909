-- What a script does next.
use Rattle.std.specs.Prelude.{ℕ, ◌+◌, ◌-◌, List, [], ◌∷◌, if◌then◌else◌, Option, Some}
use Rattle.cdi_base.specs.declared.act.Act.{Act}
use Rattle.cdi_base.specs.declared.act.Act.TheVariants as acts
use Rattle.cdi_base.specs.declared.act.Answer.{Answer}
use Rattle.cdi_base.specs.declared.act.Answer.TheVariants as answers
use Rattle.cdi_base.specs.declared.fields.Fields.{Fields}
use Rattle.cdi_base.specs.declared.value.Value.TheVariants as values
use Rattle.cdi_bodies.specs.declared.view.View.{View}
use Rattle.cdi_bodies.specs.Shape.{last_answer}
use Rattle.cdi_script.specs.declared.step.Step.{Step}
use Rattle.cdi_script.specs.Reached.{reached}
use Rattle.cdi_script.specs.Step.{act_of, is_lookup}

abbrev pub lookups_in : List Step → ℕ
lookups_in [] = 0
lookups_in (step ∷ steps) = (if is_lookup step.action then 1 else 0) + lookups_in steps

-- where no step is left: an exception that no step caught is thrown on, and else null is given
abbrev pub end_act : Option Answer → Act
end_act (Some (answers.Threw exception text)) = acts.Throw exception
end_act _ = acts.Give values.Null

-- the act at the steps from the one reached on; a lookup's number is the number of lookups before it
abbrev pub act_at : List Step → List Step → Fields → View → Act
act_at steps [] fields view = end_act (last_answer view)
act_at steps (step ∷ more) fields view =
    act_of (lookups_in steps - lookups_in (step ∷ more)) step.action fields view

-- what the script does next
abbrev pub next_of : List Step → Fields → View → Act
next_of steps fields view = act_at steps (reached steps view.answers) fields view
