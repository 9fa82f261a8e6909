use Rattle.std.proofs.Common.{◌≡◌, ◌++◌, map, take, drop}
use Rattle.cdi_store.specs.Live.{all_but}
use Rattle.cdi_host.proofs.stack.temporaries.Stack+Seq+u32.forget.Given as goal

abbrev pub invariant-loop-numbers : goal.invariant-loop-numbers
invariant-loop-numbers l =
    l.numbers-items
    ≡ map (all_but l.number) (take l.numbers-index l.initial.numbers-items)
    ++ drop l.numbers-index l.initial.numbers-items
