-- How the live instances are told.
use Rattle.std.proofs.Common.{◌≡◌, map, None, refl}
use Rattle.cdi_base.specs.declared.reply.Reply.TheVariants as replies
use Rattle.cdi_base.specs.declared.value.Value.TheVariants as values
use Rattle.cdi_machine.specs.Commands.{Command}
use Rattle.cdi_machine.specs.Container.{refusal}
use Rattle.cdi_machine.specs.Programs.{Gave, Result}
use Rattle.cdi_machine.specs.Runs.{Ends, Legal, Runs}
use Rattle.cdi_machine.specs.Tables.{Tables}
use Rattle.cdi_container.specs.States.{AnswersCommand, CarriesOut, ContainerState, after_refusal, machine_state}
use Rattle.cdi_container.proofs.Halted.{works_on}

pub live_told : (tables : Tables) (legal : Legal) (s : ContainerState) → refusal tables (machine_state s) Command.Live ≡ None
    → AnswersCommand tables legal (Unit {0}) s Command.Live (replies.Live (map (λ p. p.0) s.world.instances)) (after_refusal s)
live_told tables legal s e =
    AnswersCommand.carries_out (Ends (Gave (Result values.Null))) e (CarriesOut.ends Runs.returns) (works_on tables s Command.Live e) refl
