use Rattle.std.proofs.Common.{◌∙◌, length, sym, arith, rules}
use Rattle.cdi_steps.specs.Known.{of_method}
use Rattle.std.proofs.lemmas.Bool.{eq-eqb}
use Rattle.cdi_frames.proofs.BodySteps.{own_missing, own_miscounted, own_first}
use Rattle.cdi_steps.proofs.Results.{map_ok}
use Rattle.cdi_steps.proofs.Made.{settles_as, settles_less}
use Rattle.cdi_frames.proofs.step.bodies.call_own.Goals as goal

pub returns-in_default : goal.returns-in_default
returns-in_default g c =
    map_ok c.answer.result (λ next h. settles_less (omega arith) (settles_as (own_missing (g.T.Tables.tables c.args.tables.now) c.args.running.value c.args.method c.args.args (g.W.Contents.world c.args.world.now) (rw (c.instance-number.ensures, c.deref.ensures) at c.in_default.ensures.found)) h)) (rw c.missed.ensures at c.answer.ensures)

pub returns-then-len-method : goal.returns-then-len-method
returns-then-len-method g c =
    map_ok c.answer-then-len-method.result (λ next h. settles_less (omega arith) (settles_as (own_miscounted (g.T.Tables.tables c.args.tables.now) c.args.running.value c.args.method c.args.args c.in-Some.method.now (g.W.Contents.world c.args.world.now) (rw (c.instance-number.ensures, c.deref.ensures) at c.in-Some.ensures.found) (search rules)) h)) (rw c.missed-then-len-method.ensures at c.answer-then-len-method.ensures)

pub returns : goal.returns
returns g c =
    let counted = eq-eqb (length c.args.args) c.in-Some.method.now.count (sym c.len.ensures ∙ c.if-len-method.false) in
    let found = rw (c.instance-number.ensures, c.deref.ensures) at c.in-Some.ensures.found in
    let made = rw (c.new-own.ensures, c.place.ensures, c.body.ensures, c.instance-number.ensures, c.deref.ensures, c.empty.ensures, c.empty-2.ensures) at c.in_ok-new.ensures.ok in
    record {
      settles = own_first (g.T.Tables.tables c.args.tables.now) c.args.running c.in_ok-new.field-0 c.args.method c.args.args c.in-Some.method.now (g.W.Contents.world c.args.world.now) found counted made;
      lowers = omega arith;
      known = λ h. (of_method (rw (c.in_ok-new.ensures.ok, c.new-own.ensures, c.body.ensures) c.in-Some.ensures.known), c.requires);
      invoked = λ h. h;
      quiet = tt;
    }
