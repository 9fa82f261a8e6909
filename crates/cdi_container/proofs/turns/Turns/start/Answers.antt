use Rattle.std.proofs.Common.{◌∙◌, refl, sym, ap, subst, length, Some, None}
use Rattle.cdi_container.specs.Commands.{machine_command}
use Rattle.cdi_container.specs.Standing.{names_of, state_of, tables_of}
use Rattle.cdi_container.specs.Turns.{StartsCommand, TurnsParts, busy_refusal}
use Rattle.cdi_container.proofs.Turning.{nothing_left}
use Rattle.cdi_container.proofs.turns.Turns.start.Goals as goal

pub returns-then-is_some-clause-starts : goal.returns-then-is_some-clause-starts
returns-then-is_some-clause-starts g c =
    let i = c.self.inside in
    let u : TurnsParts g.row.D.Denot = record { container = i.container; left = i.left; shown_from = length c.trace.result.now } in
    rw c.busy_refusal.ensures
    (subst
    (λ (t : TurnsParts g.row.D.Denot). StartsCommand (tables_of t.container) (g.D.Driver.legal t.container.runtime.driver) (machine_command (names_of t.container) c.args.command.now) t (Some (busy_refusal (state_of i.container))) u)
    c.self.view_is
    (StartsCommand.is_busy (record { busy = sym c.is_some.ensures ∙ c.if-is_some.true; container = refl; left = refl; shown_from = ap length c.trace.ensures })))

pub returns-in-Ok-clause-starts : goal.returns-in-Ok-clause-starts
returns-in-Ok-clause-starts g c =
    let i = c.self.inside in
    let none = nothing_left i.left (sym c.is_some.ensures ∙ c.if-is_some.false) in
    let u : TurnsParts g.row.D.Denot = record { container = c.begin_command.new.self; left = Some c.new.result; shown_from = 0 } in
    subst
    (λ (t : TurnsParts g.row.D.Denot). StartsCommand (tables_of t.container) (g.D.Driver.legal t.container.runtime.driver) (machine_command (names_of t.container) c.args.command.now) t None u)
    c.self.view_is (StartsCommand.starts c.in-Ok.left none c.in-Ok.ensures.begins (ap Some c.new.ensures) refl)

pub returns-in-Err-clause-starts : goal.returns-in-Err-clause-starts
returns-in-Err-clause-starts g c =
    let i = c.self.inside in
    let none = nothing_left i.left (sym c.is_some.ensures ∙ c.if-is_some.false) in
    let told = c.in-Err.ensures.begins in
    let u : TurnsParts g.row.D.Denot = record { container = c.begin_command.new.self; left = i.left; shown_from = 0 } in
    subst
    (λ (t : TurnsParts g.row.D.Denot). StartsCommand (tables_of t.container) (g.D.Driver.legal t.container.runtime.driver) (machine_command (names_of t.container) c.args.command.now) t (Some c.in-Err.refusal) u)
    c.self.view_is (StartsCommand.refuses c.in-Err.refusal none told.0 told.1 none refl)
