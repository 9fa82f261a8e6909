use Rattle.std.proofs.Common.{◌∙◌, ◌<◌, rules, drop, refl, sym, arith, length}
use Rattle.std.proofs.lemmas.Grind.{common_steps}
use Rattle.std.proofs.lemmas.List.{length-take}
use Rattle.std.proofs.lemmas.Result.{err_from_is_err_and}
use Rattle.cdi_lines.proofs.Reading.{piece_read}
use Rattle.cdi_program.proofs.Taking.{taken_end, taken_kept, taken_most, taken_some, taking_more, taking_none}
use Rattle.cdi_program.proofs.input.read_up_to.Goals as goal

pub loop-left-init : goal.loop-left-init
loop-left-init g c = (taking_none c.args.most _ _ c.new-bytes.ensures.items, refl)

pub returns-in_err-count-clause-takes : goal.returns-in_err-count-clause-takes
returns-in_err-count-clause-takes g c =
    let p = err_from_is_err_and c.from_residual.result c.from_residual.ensures.1 in
    rw p.1 (taken_kept _ _ _ _ _ _ c.loop-left.invariant.0 c.in_err-count.ensures.bytes)

pub returns-then-count-eq0-clause-takes : goal.returns-then-count-eq0-clause-takes
returns-then-count-eq0-clause-takes g c =
    let count = c.in_ok-count.ensures in
    let room = c.read.auto.buf ∙ length-take c.min-room.result c.loop-left.buf in
    let more : 0 < length c.read.new.buf = grind (arith, common_steps) in
    taken_end _ _ _ _ _ _ _ c.in_ok-count.count c.loop-left.invariant.0 count.bytes.0 count.bound.1 c.if-count-eq0.true (count.bytes.1 c.if-count-eq0.true more)

pub returns-then-count-eq0-clause-blames : goal.returns-then-count-eq0-clause-blames
returns-then-count-eq0-clause-blames g c = (c.in_ok-count.ensures.failed.1 ∙ sym c.in_ok-count.ensures.failed.0 ∙ c.loop-left.invariant.1, refl)

pub returns-in_err-extend_from_slice-clause-takes : goal.returns-in_err-extend_from_slice-clause-takes
returns-in_err-extend_from_slice-clause-takes g c =
    let count = c.in_ok-count.ensures in
    let p = err_from_is_err_and c.from_residual-in_err-extend_from_slice.result c.from_residual-in_err-extend_from_slice.ensures.1 in
    let room = c.read.auto.buf ∙ length-take c.min-room.result c.loop-left.buf in
    let (came, counts, within) = piece_read _ _ _ (drop c.min-room.result c.loop-left.buf) _ _ _ _ count.bound room c.min-room.ensures count.bytes.0 in
    rw p.1 (taken_some _ _ _ _ _ (taking_more _ _ _ _ _ _ _ _ _ c.loop-left.invariant.0 came counts within refl))

pub returns-in_err-extend_from_slice-clause-blames : goal.returns-in_err-extend_from_slice-clause-blames
returns-in_err-extend_from_slice-clause-blames g c =
    let p = err_from_is_err_and c.from_residual-in_err-extend_from_slice.result c.from_residual-in_err-extend_from_slice.ensures.1 in
    rw (p.1, p.2) (c.in_ok-count.ensures.failed.1 ∙ sym c.in_ok-count.ensures.failed.0 ∙ c.loop-left.invariant.1, refl)

pub loop-left-preserved : goal.loop-left-preserved
loop-left-preserved g c =
    let count = c.in_ok-count.ensures in
    let room = c.read.auto.buf ∙ length-take c.min-room.result c.loop-left.buf in
    let (came, counts, within) = piece_read _ _ _ (drop c.min-room.result c.loop-left.buf) _ _ _ _ count.bound room c.min-room.ensures count.bytes.0 in
    (taking_more _ _ _ _ _ _ _ _ _ c.loop-left.invariant.0 came counts within (search rules), c.in_ok-count.ensures.failed.1 ∙ sym c.in_ok-count.ensures.failed.0 ∙ c.loop-left.invariant.1)

pub returns-clause-takes : goal.returns-clause-takes
returns-clause-takes g c = taken_most _ _ _ _ _ c.loop-left.invariant.0 (omega arith)

pub returns-clause-blames : goal.returns-clause-blames
returns-clause-blames g c = (c.loop-left.invariant.1, refl)
