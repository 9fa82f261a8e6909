-- What a container answers stays an answer if more is legal.
use Rattle.std.proofs.Common.{ℕ, Bool, List}
use Rattle.std.specs.Prelude.{Result, Ok, Err}
use Rattle.cdi_base.specs.declared.command.Command.{Command as Read}
use Rattle.cdi_base.specs.declared.reply.Cause.TheVariants as causes
use Rattle.cdi_base.specs.declared.reply.Reply.{Reply}
use Rattle.cdi_text.specs.declared.command.BadLine.{BadLine}
use Rattle.cdi_text.specs.Command.{command_in}
use Rattle.cdi_machine.specs.Tables.{Tables}
use Rattle.cdi_machine.specs.World.{World}
use Rattle.cdi_machine.specs.Programs.{Given, Prog}
use Rattle.cdi_machine.specs.Commands.{Command}
use Rattle.cdi_machine.specs.Runs.{Legal, Outcome, Cut}
use Rattle.cdi_machine.specs.Laws.{IsWithin}
use Rattle.cdi_machine.proofs.Order.{wider}
use Rattle.cdi_container.specs.Commands.{machine_command}
use Rattle.cdi_container.specs.Sessions.{AnswersRead, AnswersLine}
use Rattle.cdi_container.specs.States.{ContainerState, CarriesOut, AnswersCommand}

pub within_both : (a b c : Legal) → IsWithin a b → IsWithin b c → IsWithin a c
within_both a b c p q = record {
  act = λ body entries fields view act h. q.act body entries fields view act (p.act body entries fields view act h);
  pick = λ count entries i h. q.pick count entries i (p.pick count entries i h);
}

module _ (names : List (List ℕ)) (tables : Tables) (small large : Legal) (more : IsWithin small large) where
  carried : (p : Prog Given) (w : World) (o : Outcome) (v : World) → CarriesOut tables small (Unit {0}) p w o v → CarriesOut tables large (Unit {0}) p w o v
  carried p w o v (CarriesOut.ends r) = CarriesOut.ends (wider tables small large more p w v o r)
  carried p w _ v (CarriesOut.starves s r) = CarriesOut.starves s (wider tables small large more p w v (Cut causes.Memory) r)

  pub answers_more : (s : ContainerState) (c : Command) (reply : Reply) (t : ContainerState) → AnswersCommand tables small (Unit {0}) s c reply t → AnswersCommand tables large (Unit {0}) s c reply t
  answers_more s c reply t (AnswersCommand.refuses r e is stays) = AnswersCommand.refuses r e is stays
  answers_more s c reply t (AnswersCommand.lacks_memory starved asks e is halts) = AnswersCommand.lacks_memory starved asks e is halts
  answers_more s c reply t (AnswersCommand.carries_out o e k halts is) = AnswersCommand.carries_out o e (carried _ _ o t.world k) halts is

  read_more : (c : Result Read BadLine) (s : ContainerState) (reply : Reply) (t : ContainerState) → AnswersRead names tables small (Unit {0}) c s reply t → AnswersRead names tables large (Unit {0}) c s reply t
  read_more (Ok command) s reply t h = answers_more s (machine_command names command) reply t h
  read_more (Err bad) s reply t h = h

  pub line_more : (shows : Bool) (s : ContainerState) (line text : List ℕ) (t : ContainerState) → AnswersLine shows names tables small (Unit {0}) s line text t → AnswersLine shows names tables large (Unit {0}) s line text t
  line_more shows s line text t (reply, h, is) = (reply, read_more (command_in line) s reply t h, is)
