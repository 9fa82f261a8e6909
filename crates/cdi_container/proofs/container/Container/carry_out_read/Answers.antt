use Rattle.cdi_container.specs.Commands.{machine_command}
use Rattle.cdi_container.specs.Standing.{names_of, state_of, tables_of}
use Rattle.cdi_container.proofs.Admitting.{answered_before, asked_if, ready}
use Rattle.cdi_container.proofs.TurnCounts.{same_then}
use Rattle.cdi_container.proofs.container.Container.carry_out_read.Goals as goal

pub carry_out_admitted-requires : goal.carry_out_admitted-requires
carry_out_admitted-requires g c = ready c.admit-admitted.ensures.same (machine_command (names_of c.args.self.now) c.args.command.now) c.admit-admitted.result c.admit-admitted.ensures.admits

pub returns-clause-answers : goal.returns-clause-answers
returns-clause-answers g c =
    answered_before c.admit-admitted.ensures.same (machine_command (names_of c.args.self.now) c.args.command.now) c.admit-admitted.result c.admit-admitted.ensures.admits
    (c.carry_out_admitted.ensures.answers (state_of c.args.self.now) (machine_command (names_of c.args.self.now) c.args.command.now))

pub returns-clause-same : goal.returns-clause-same
returns-clause-same g c = same_then c.admit-admitted.ensures.same c.carry_out_admitted.ensures.same

pub returns-clause-known : goal.returns-clause-known
returns-clause-known g c =
    let s = c.args.self.now in
    c.keep_admitted.ensures (names_of s) (tables_of s) c.requires.known
    (asked_if (names_of s) c.args.line.now c.args.command.now c.requires.read (tables_of s) (state_of s) (state_of c.admit-admitted.new.self) c.admit-admitted.result c.admit-admitted.ensures.admits)
