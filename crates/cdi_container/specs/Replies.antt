-- The reply to a job that ended so.
use Rattle.std.specs.Prelude.{Bool, true, false}
use Rattle.cdi_base.specs.declared.reply.Reply.{Reply}
use Rattle.cdi_base.specs.declared.reply.Reply.TheVariants as replies
use Rattle.cdi_steps.specs.declared.task.Given.{Given}
use Rattle.cdi_steps.specs.declared.task.Given.TheVariants as givens
use Rattle.cdi_steps.specs.declared.task.Completion.{Completion}
use Rattle.cdi_steps.specs.declared.task.Completion.TheVariants as completions
use Rattle.cdi_steps.specs.declared.task.Outcome.{Outcome}
use Rattle.cdi_steps.specs.declared.task.Outcome.TheVariants as outcomes
use Rattle.cdi_steps.specs.declared.task.Job.{Job}
use Rattle.cdi_steps.specs.declared.task.Job.TheVariants as jobs

-- a call and a read are answered by their value
abbrev pub has_value : Job → Bool
has_value (jobs.Use request used) = true
has_value _ = false

-- it asks for the live instances
abbrev pub asks_for_live : Job → Bool
asks_for_live jobs.Live = true
asks_for_live _ = false

-- how a job ended tells its reply, but for the live instances, which the world tells
abbrev pub IsToldByEnd : Job → Type 0
IsToldByEnd jobs.Live = ⊥
IsToldByEnd _ = Unit {0}

abbrev pub given_reply : Bool → Given → Reply
given_reply true (givens.Result v) = replies.Value v
given_reply _ _ = replies.Done

abbrev pub completion_reply : Bool → Completion → Reply
completion_reply valued (completions.Gave g) = given_reply valued g
completion_reply valued (completions.Threw x) = replies.Threw x

abbrev pub reply_of : Bool → Outcome → Reply
reply_of valued (outcomes.Ends c) = completion_reply valued c
reply_of valued (outcomes.Cut cause) = replies.Halted cause
