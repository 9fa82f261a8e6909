use Rattle.std.proofs.Common.{◌∙◌, ◌≤◌, ap, map, reverse, length, arith}
use Rattle.std.proofs.lemmas.List.{with_items_is}
use Rattle.std.proofs.lemmas.List.Edits.{map_over_more}
use Rattle.cdi_store.specs.Live.{all_but}
use Rattle.cdi_host.proofs.Stacks.{map-reverse, mapped_whole}
use Rattle.cdi_host.proofs.stack.temporaries.Stack+Seq+u32.forget.Goals as goal

pub loop-numbers-preserved : goal.loop-numbers-preserved
loop-numbers-preserved c =
    rw (c.take_from.ensures, ← c.numbers-item.is) (map_over_more (all_but c.args.number)
    c.deref_mut-numbers-items.result.now c.loop-numbers.numbers-items
    c.loop-numbers.numbers-index c.numbers-item.result (omega arith) c.loop-numbers.invariant c.numbers-item.is)

pub returns : goal.returns
returns c =
    let xs = c.deref_mut-numbers-items.result.now in
    let ys = c.loop-numbers.numbers-items in
    let v = c.self.inside.items in
    let f = all_but c.args.number in
    let all : length xs ≤ c.loop-numbers.numbers-index = omega arith in
    let whole = mapped_whole f xs ys c.loop-numbers.numbers-index c.loop-numbers.invariant all in
    ap reverse (with_items_is v ys (c.loop-numbers.auto.numbers-items ∙ c.deref_mut-numbers-items.ensures.len))
    ∙ ap reverse whole ∙ ap (λ zs. reverse (map f zs)) c.deref_mut-numbers-items.ensures.value
    ∙ map-reverse f v.items ∙ ap (map f) c.self.view_is
