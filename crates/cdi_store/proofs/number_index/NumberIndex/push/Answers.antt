use Rattle.std.proofs.Common.{◌++◌, ◌∷◌, [], ◌∙◌, length, ap, arith}
use Rattle.cdi_store.proofs.NumberEntries.{length-pairs, pushed, pairs-last}
use Rattle.cdi_store.proofs.number_index.NumberIndex.push.Goals as goal

pub overflow_add-self : goal.overflow_add-self
overflow_add-self c =
    let cleared = c.clear_above.new.entries in
    omega (arith, c.self.invariant.count, length-pairs cleared.items, ap length c.clear_above.ensures.pairs, c.in_ok-push.ensures.len, cleared.ok.0, c.push.new.self.ok.0)

pub invariant_of-self-2 : goal.invariant_of-self-2
invariant_of-self-2 c =
    let kept = c.clear_above.ensures in
    rw c.in_ok-push.ensures.items (pushed c.self.inside.entries.items c.clear_above.new.entries.items c.self.inside.live c.args.number c.args.slot kept.ascending kept.below kept.pairs c.self.invariant)

pub returns-clause-ok : goal.returns-clause-ok
returns-clause-ok c =
    rw c.in_ok-push.ensures.items (pairs-last c.clear_above.new.entries.items c.args.number c.args.slot)
    ∙ ap (λ m. m ++ (c.args.number, c.args.slot) ∷ []) (c.clear_above.ensures.pairs ∙ c.self.view_is)
