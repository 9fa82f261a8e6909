use Rattle.std.proofs.Common.{◌≡◌, ◌∙◌, length, ap, sym, subst}
use Rattle.cdi_base.specs.Maps.{without}
use Rattle.cdi_store.proofs.NumberEntries.{left, without-none, without-gone}
use Rattle.cdi_store.proofs.number_index.NumberIndex.remove.Goals as goal

pub returns-in_default : goal.returns-in_default
returns-in_default c =
    let es = c.self.inside.entries.items in
    subst (λ m. m ≡ without c.args.number m) c.self.view_is (without-none c.deref.result.now es c.args.number c.deref.ensures.value c.in_default.ensures)

pub returns-then-is_none : goal.returns-then-is_none
returns-then-is_none c =
    let es = c.self.inside.entries.items in
    subst (λ m. m ≡ without c.args.number m) c.self.view_is
    (without-gone c.deref.result.now es c.args.number c.in-Some.place c.index.result.now c.deref.ensures.value c.self.invariant.ascending c.in-Some.ensures c.index.ensures c.if-is_none.ensures)

pub overflow_sub-self : goal.overflow_sub-self
overflow_sub-self c =
    let s = c.self.inside in
    let l = left c.deref.result.now s.entries.items c.args.number c.in-Some.place s.live c.index.result.now c.index_mut.result.now c.deref.ensures.value c.self.invariant c.in-Some.ensures c.index.ensures c.if-is_none.ensures c.index_mut.ensures.value in
    l.positive

pub sweep-requires : goal.sweep-requires
sweep-requires c =
    let s = c.self.inside in
    let l = left c.deref.result.now s.entries.items c.args.number c.in-Some.place s.live c.index.result.now c.index_mut.result.now c.deref.ensures.value c.self.invariant c.in-Some.ensures c.index.ensures c.if-is_none.ensures c.index_mut.ensures.value in
    l.counted.ascending

pub invariant_of-self : goal.invariant_of-self
invariant_of-self c =
    let s = c.self.inside in
    let l = left c.deref.result.now s.entries.items c.args.number c.in-Some.place s.live c.index.result.now c.index_mut.result.now c.deref.ensures.value c.self.invariant c.in-Some.ensures c.index.ensures c.if-is_none.ensures c.index_mut.ensures.value in
    record {
      ascending = c.sweep.ensures.ascending;
      count = l.counted.count ∙ ap length (sym c.sweep.ensures.pairs);
    }

pub returns : goal.returns
returns c =
    let s = c.self.inside in
    let l = left c.deref.result.now s.entries.items c.args.number c.in-Some.place s.live c.index.result.now c.index_mut.result.now c.deref.ensures.value c.self.invariant c.in-Some.ensures c.index.ensures c.if-is_none.ensures c.index_mut.ensures.value in
    c.sweep.ensures.pairs ∙ l.pairs ∙ ap (without c.args.number) c.self.view_is
