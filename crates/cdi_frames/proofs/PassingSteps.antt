-- Frames that hand on an outcome do what the machine does.
use Rattle.std.proofs.Common.{◌≡◌, refl, arith}
use Rattle.cdi_base.specs.declared.place.InterceptorMethod.TheVariants as roles
use Rattle.cdi_machine.specs.Tables.{Tables}
use Rattle.cdi_machine.specs.World.{World, Change, after_change}
use Rattle.cdi_steps.specs.Meanings.{after}
use Rattle.cdi_steps.specs.Ranks.{back_rank}
use Rattle.cdi_steps.specs.Steps.{Steps}
use Rattle.cdi_steps.specs.declared.task.Completion.{Completion}
use Rattle.cdi_steps.specs.declared.task.Completion.TheVariants as completions
use Rattle.cdi_steps.specs.declared.task.Given.{Given}
use Rattle.cdi_steps.specs.declared.task.Outcome.{Outcome}
use Rattle.cdi_steps.specs.declared.task.Outcome.TheVariants as outcomes
use Rattle.cdi_steps.specs.declared.task.Frame.{Frame}
use Rattle.cdi_steps.specs.declared.task.Frame.TheVariants as frames
use Rattle.cdi_steps.specs.declared.task.Next.TheVariants as nexts
use Rattle.cdi_steps.proofs.Changes.{exit_invoked, reach_invoked}
use Rattle.cdi_steps.proofs.Made.{ends}
use Rattle.cdi_frames.proofs.ResumeSteps.{reached_leads, stopped_leads, exited_leads}

module _ (t : Tables) where
  stopping : (c : Completion) (w : World) → Steps t (after frames.Stopping (outcomes.Ends c)) (back_rank frames.Stopping (outcomes.Ends c)) w (nexts.Finished (outcomes.Ends c)) (after_change Change.Stop w)
  stopping (completions.Gave g) w = ends (stopped_leads t (completions.Gave g) w) (omega arith) refl
  stopping (completions.Threw x) w = ends (stopped_leads t (completions.Threw x) w) (omega arith) refl

  exiting : (c : Completion) (w : World) → Steps t (after frames.Exiting (outcomes.Ends c)) (back_rank frames.Exiting (outcomes.Ends c)) w (nexts.Finished (outcomes.Ends c)) (after_change Change.Exit w)
  exiting (completions.Gave g) w = record { leads = exited_leads t (completions.Gave g) w; lowers = omega arith; known = λ h. tt; invoked = exit_invoked; quiet = tt }
  exiting (completions.Threw x) w = record { leads = exited_leads t (completions.Threw x) w; lowers = omega arith; known = λ h. tt; invoked = exit_invoked; quiet = tt }

  module _ (k : Frame) (o : Outcome) (c : Completion) (w v : World) (e : o ≡ outcomes.Ends c) where
    -- the end of a body
    pub stopping_passes : k ≡ frames.Stopping → v ≡ after_change Change.Stop w → Steps t (after k o) (back_rank k o) w (nexts.Finished o) v
    stopping_passes f q = rw (f, e, q) (stopping c w)

    -- the end of an invocation
    pub exiting_passes : k ≡ frames.Exiting → v ≡ after_change Change.Exit w → Steps t (after k o) (back_rank k o) w (nexts.Finished o) v
    exiting_passes f q = rw (f, e, q) (exiting c w)

  -- the end of a business method's chain
  pub end_passes : (g : Given) (w : World) → Steps t (after (frames.AtEnd roles.AroundInvoke) (outcomes.Ends (completions.Gave g))) (back_rank (frames.AtEnd roles.AroundInvoke) (outcomes.Ends (completions.Gave g))) w (nexts.Finished (outcomes.Ends (completions.Gave g))) (after_change Change.Reach w)
  end_passes g w = record { leads = reached_leads t roles.AroundInvoke g w; lowers = omega arith; known = λ h. tt; invoked = reach_invoked; quiet = tt }
