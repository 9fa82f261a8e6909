-- What a job is answered is the machine's reply to its command.
use Rattle.std.proofs.Common.{ℕ, ◌≡◌, List, Option, true, false, refl}
use Rattle.cdi_host.specs.Asked.{asked_for}
use Rattle.cdi_machine.specs.Commands.{Command}
use Rattle.cdi_machine.specs.Words.{Asked}
use Rattle.cdi_machine.specs.World.{World}
use Rattle.cdi_machine.specs.Container.{reply_to}
use Rattle.cdi_steps.specs.declared.task.Given.TheVariants as givens
use Rattle.cdi_steps.specs.declared.task.Completion.TheVariants as completions
use Rattle.cdi_steps.specs.declared.task.Outcome.{Outcome}
use Rattle.cdi_steps.specs.declared.task.Outcome.TheVariants as outcomes
use Rattle.cdi_steps.specs.declared.task.BeanPurpose.{BeanPurpose}
use Rattle.cdi_steps.specs.declared.task.BeanPurpose.TheVariants as bean_purposes
use Rattle.cdi_steps.specs.declared.task.Job.{Job}
use Rattle.cdi_steps.specs.declared.task.Job.TheVariants as jobs
use Rattle.cdi_steps.specs.Words.{command_of, outcome_of, use_command}
use Rattle.cdi_container.specs.Replies.{IsToldByEnd, asks_for_live, has_value, reply_of}

use_replied : (request : Option (List ℕ)) (asked : Asked) (purpose : BeanPurpose) (o : Outcome) (w : World) → reply_of true o ≡ reply_to (use_command request asked purpose) (outcome_of o) w
use_replied request asked (bean_purposes.Call method args) (outcomes.Ends (completions.Gave (givens.Result v))) w = refl
use_replied request asked (bean_purposes.Call method args) (outcomes.Ends (completions.Gave (givens.Number n))) w = refl
use_replied request asked (bean_purposes.Call method args) (outcomes.Ends (completions.Gave givens.Empty)) w = refl
use_replied request asked bean_purposes.Read (outcomes.Ends (completions.Gave (givens.Result v))) w = refl
use_replied request asked bean_purposes.Read (outcomes.Ends (completions.Gave (givens.Number n))) w = refl
use_replied request asked bean_purposes.Read (outcomes.Ends (completions.Gave givens.Empty)) w = refl
use_replied request asked purpose (outcomes.Ends (completions.Threw x)) w = refl
use_replied request asked purpose (outcomes.Cut cause) w = refl

pub replied : (job : Job) (o : Outcome) (w : World) → IsToldByEnd job → reply_of (has_value job) o ≡ reply_to (command_of job) (outcome_of o) w
replied (jobs.Use request used) o w told = use_replied request (asked_for used.value.bean_type used.value.qualifiers) used.value.purpose o w
replied jobs.Boot (outcomes.Ends (completions.Gave g)) w told = refl
replied (jobs.Begin names) (outcomes.Ends (completions.Gave g)) w told = refl
replied (jobs.End request) (outcomes.Ends (completions.Gave g)) w told = refl
replied (jobs.Invalidate session) (outcomes.Ends (completions.Gave g)) w told = refl
replied (jobs.Fire request event) (outcomes.Ends (completions.Gave g)) w told = refl
replied jobs.Live o w told = absurd told
replied jobs.Shutdown (outcomes.Ends (completions.Gave g)) w told = refl
replied job (outcomes.Ends (completions.Threw x)) w told = refl
replied job (outcomes.Cut cause) w told = refl

-- a job that asks for the live instances, and one that doesn't
pub is_live : (job : Job) → asks_for_live job ≡ true → command_of job ≡ Command.Live
is_live jobs.Live e = refl
is_live jobs.Boot e = absurd (cc)
is_live (jobs.Begin names) e = absurd (cc)
is_live (jobs.End request) e = absurd (cc)
is_live (jobs.Invalidate session) e = absurd (cc)
is_live (jobs.Use request used) e = absurd (cc)
is_live (jobs.Fire request event) e = absurd (cc)
is_live jobs.Shutdown e = absurd (cc)

pub told_by_end : (job : Job) → asks_for_live job ≡ false → IsToldByEnd job
told_by_end jobs.Live e = absurd (cc)
told_by_end jobs.Boot e = tt
told_by_end (jobs.Begin names) e = tt
told_by_end (jobs.End request) e = tt
told_by_end (jobs.Invalidate session) e = tt
told_by_end (jobs.Use request used) e = tt
told_by_end (jobs.Fire request event) e = tt
told_by_end jobs.Shutdown e = tt
