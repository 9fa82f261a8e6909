use Rattle.std.proofs.Common.{sym, subst}
use Rattle.cdi_text.specs.Command.{command_in}
use Rattle.cdi_container.specs.Sessions.{AnswersRead}
use Rattle.cdi_container.specs.Standing.{names_of, state_of, tables_of}
use Rattle.cdi_container.proofs.Admitting.{answers_asked}
use Rattle.cdi_container.proofs.container.Container.reply_to.Goals as goal

pub carry_out_known-requires : goal.carry_out_known-requires
carry_out_known-requires g c =
    let asks = c.in-Some.ensures.found (names_of c.args.self.now) (tables_of c.args.self.now) c.requires in asks.rightly

pub returns-in-Some-clause-answers : goal.returns-in-Some-clause-answers
returns-in-Some-clause-answers g c =
    let s = c.args.self.now in
    answers_asked (names_of s) (tables_of s) c.args.line.now c.in-Some.job (c.in-Some.ensures.found (names_of s) (tables_of s) c.requires) c.carry_out_known.ensures.answers

pub returns-in-Ok-clause-answers : goal.returns-in-Ok-clause-answers
returns-in-Ok-clause-answers g c = rw c.in-Ok.ensures.gives c.carry_out_read.ensures.answers

pub carry_out_read-requires-clause-known : goal.carry_out_read-requires-clause-known
carry_out_read-requires-clause-known g c =
    c.in-None.ensures.kept (names_of c.args.self.now) (tables_of c.args.self.now) c.requires
