use Rattle.std.proofs.Common.{◌∙◌, ℕ, List, Result, Ok, Err, OnErr, IfOk, inr, refl, ap, subst}
use Rattle.cdi_container.specs.Standing.{names_of, state_of}
use Rattle.cdi_container.specs.Sessions.{AnswersSo, SessionParts, reply_in}
use Rattle.cdi_container.proofs.Admitting.{stay_known}
use Rattle.cdi_container.proofs.session.SessionResponder.answer.Goals as goal

if_ok : {T E : Type 0} {P Q : T → Type 0} (r : Result T E) → ((x : T) → P x → Q x) → IfOk r P → IfOk r Q
if_ok (Ok x) f p = f x p
if_ok (Err e) f p = tt

on_err : {T E : Type 0} {P : Type 0} (r : Result T E) → P → OnErr r P
on_err (Ok x) p = tt
on_err (Err e) p = p

pub reply_to-requires : goal.reply_to-requires
reply_to-requires g c = c.self.invariant

pub invariant_of-self : goal.invariant_of-self
invariant_of-self g c = stay_known c.reply_to.ensures.same c.reply_to.new.known_lines c.reply_to.ensures.known

pub returns-clause-replies : goal.returns-clause-replies
returns-clause-replies g c =
    let s = c.self.inside in
    let t = c.reply_to.new.self in
    let reply = c.in_ok-reply.reply in
    let so = c.in_ok-reply.ensures in
    let after : SessionParts g.row.D.Denot = record { container = t; shows_trace = s.shows_trace; slice = s.slice } in
    if_ok c.text_of.result
    (λ text is.
    subst (λ k. AnswersSo (g.D.Driver.legal k.container.runtime.driver) (g.D.Driver.legal t.runtime.driver) k c.args.line.now text.items after) c.self.view_is
    (record { same = so.same; shows = refl; slice = refl; answers = (reply, so.answers, is ∙ ap (λ (ns : List (List ℕ)). reply_in ns s.shows_trace reply (state_of t)) so.same.parts.names) }))
    c.text_of.ensures

pub returns-clause-lost : goal.returns-clause-lost
returns-clause-lost g c =
    let s = c.self.inside in
    let t = c.reply_to.new.self in
    let reply = c.in_ok-reply.reply in
    let so = c.in_ok-reply.ensures in
    let after : SessionParts g.row.D.Denot = record { container = t; shows_trace = s.shows_trace; slice = s.slice } in
    let text = reply_in (names_of s.container) s.shows_trace reply (state_of t) in
    on_err c.text_of.result (inr (
      text,
      subst (λ k. AnswersSo (g.D.Driver.legal k.container.runtime.driver) (g.D.Driver.legal t.runtime.driver) k c.args.line.now text after) c.self.view_is
          (record { same = so.same; shows = refl; slice = refl; answers = (reply, so.answers, refl) }),
    ))
