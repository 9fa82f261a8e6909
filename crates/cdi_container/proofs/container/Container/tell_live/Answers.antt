use Rattle.cdi_machine.specs.Commands.{Command}
use Rattle.cdi_container.specs.Standing.{tables_of, state_of}
use Rattle.cdi_container.proofs.Starving.{starved_answer}
use Rattle.cdi_container.proofs.container.Container.tell_live.Goals as goal

-- the tables refuse no such command
pub returns-in-Err-clause-answers : goal.returns-in-Err-clause-answers
returns-in-Err-clause-answers g c =
    let s = c.args.self.now in
    starved_answer (tables_of s) (g.D.Driver.legal s.runtime.driver) (state_of s) (state_of c.starve.new.self) c.starve.result c.starve.ensures.reply c.starve.ensures.state Command.Live c.requires
