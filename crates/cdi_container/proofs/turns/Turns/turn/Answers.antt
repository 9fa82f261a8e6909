use Rattle.std.proofs.Common.{◌∙◌, refl, sym, ap, subst, Some}
use Rattle.cdi_container.specs.Standing.{tables_of}
use Rattle.cdi_container.specs.Turns.{TakesTurn, TurnsParts}
use Rattle.cdi_container.specs.declared.left.Progress.TheVariants as progresses
use Rattle.cdi_container.specs.declared.turns.Turned.TheVariants as turneds
use Rattle.cdi_container.proofs.turns.Turns.turn.Goals as goal

pub returns-in_default-clause-turns : goal.returns-in_default-clause-turns
returns-in_default-clause-turns g c =
    let i = c.self.inside in
    let t : TurnsParts g.row.D.Denot = record { container = i.container; left = i.left; shown_from = i.shown_from } in
    let none = sym c.take.ensures.value ∙ c.in_default.is in
    subst
    (λ (t : TurnsParts g.row.D.Denot). TakesTurn (tables_of t.container) (g.D.Driver.legal t.container.runtime.driver) t turneds.Idle (record { container = i.container; left = c.take.new.self; shown_from = i.shown_from }))
    c.self.view_is
    (subst (λ l. TakesTurn (tables_of i.container) (g.D.Driver.legal i.container.runtime.driver) t turneds.Idle (record { container = i.container; left = l; shown_from = i.shown_from }))
    (none ∙ sym c.take.ensures.after) (TakesTurn.idle none))

pub returns-in-Running-clause-turns : goal.returns-in-Running-clause-turns
returns-in-Running-clause-turns g c =
    let i = c.self.inside in
    let u : TurnsParts g.row.D.Denot = record { container = c.go_on.new.self; left = Some c.new.result; shown_from = i.shown_from } in
    subst
    (λ (t : TurnsParts g.row.D.Denot). TakesTurn (tables_of t.container) (g.D.Driver.legal t.container.runtime.driver) t turneds.Running u)
    c.self.view_is
    (TakesTurn.goes_on c.into_left.result (progresses.Running c.in-Running.left) (sym c.take.ensures.value ∙ c.in-Some.is ∙ ap Some (sym c.into_left.ensures)) c.in-Running.ensures.goes (ap Some c.new.ensures) refl)

pub returns-in-Finished-clause-turns : goal.returns-in-Finished-clause-turns
returns-in-Finished-clause-turns g c =
    let i = c.self.inside in
    let u : TurnsParts g.row.D.Denot = record { container = c.go_on.new.self; left = c.take.new.self; shown_from = i.shown_from } in
    subst
    (λ (t : TurnsParts g.row.D.Denot). TakesTurn (tables_of t.container) (g.D.Driver.legal t.container.runtime.driver) t (turneds.Finished c.in-Finished.reply) u)
    c.self.view_is
    (TakesTurn.goes_on c.into_left.result (progresses.Finished c.in-Finished.reply) (sym c.take.ensures.value ∙ c.in-Some.is ∙ ap Some (sym c.into_left.ensures)) c.in-Finished.ensures.goes c.take.ensures.after refl)
