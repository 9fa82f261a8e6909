-- Between two commands nothing is running, since a command that isn't cut leaves nothing running.
use Rattle.std.proofs.Common.{◌≡◌, ◌∙◌, None, refl, sym, ap, subst}
use Rattle.cdi_machine.specs.Commands.{Command, task}
use Rattle.cdi_machine.specs.Laws.{IsEnd, IsAtRest, Rests}
use Rattle.cdi_machine.specs.Runs.{Legal, Outcome, Ends, Cut}
use Rattle.cdi_machine.specs.Tables.{Tables}
use Rattle.cdi_machine.specs.World.{World, at_begin}
use Rattle.cdi_container.specs.History.{History}
use Rattle.cdi_container.specs.Resting.{NothingRuns}
use Rattle.cdi_container.specs.States.{ContainerState, AnswersCommand, CarriesOut, cause_of}
use Rattle.cdi_container.proofs.Halted.{works_on}

module _ (tables : Tables) (legal : Legal) (rests : Rests tables legal) where
  begun : (w : World) → IsAtRest w → IsAtRest (at_begin w)
  begun w q = record { invocations = q.invocations; bodies = q.bodies; temporaries = q.temporaries }

  whole : (o : Outcome) → cause_of o ≡ None → IsEnd o
  whole (Ends c) e = tt
  whole (Cut cause) e = absurd (cc)

  carried : (c : Command) (w v : World) (o : Outcome) → IsAtRest w → CarriesOut tables legal (Unit {0}) (task c) (at_begin w) o v → cause_of o ≡ None → IsAtRest v
  carried c w v o q (CarriesOut.ends r) e = rests c (at_begin w) v o r (whole o e) (begun w q)
  carried c w v o q (CarriesOut.starves starved r) e = absurd (cc)

  pub nothing_runs : NothingRuns tables legal
  nothing_runs _ _ (History.begins ticks depth) none = record { invocations = refl; bodies = refl; temporaries = refl }
  nothing_runs t _ (History.answers {s = s} {h = h} before (AnswersCommand.refuses r e is stays)) none =
      subst (λ (x : ContainerState). IsAtRest x.world) (sym stays) (begun s.world (nothing_runs s h before (sym (ap (λ (x : ContainerState). x.halted) stays) ∙ none)))
  nothing_runs t _ (History.answers {s = s} {h = h} {c = c} before (AnswersCommand.carries_out o e k halts is)) none =
      carried c s.world t.world o (nothing_runs s h before (works_on tables s c e)) k (sym halts ∙ none)
  nothing_runs t _ (History.answers before (AnswersCommand.lacks_memory starved asks e is halts)) none =
      let halted = sym (ap (λ (x : ContainerState). x.halted) halts) ∙ none in
      absurd (cc)
  nothing_runs _ _ (History.refuses_line {s = s} {h = h} before) none = begun s.world (nothing_runs s h before none)
