use Rattle.std.proofs.Common.{◌-◌, ◌<◌, length, arith}
use Rattle.std.proofs.lemmas.Bool.Decides.{nat_tests}
use Rattle.cdi_store.proofs.NumberEntries.{below-end}
use Rattle.cdi_store.proofs.number_index.ends_below.Goals as goal

pub returns-in-Some : goal.returns-in-Some
returns-in-Some c = λ below.
    let es = c.args.entries.now in
    let last = c.in-Some.last.now in
    let item = c.in-Some.ensures.item.3 in
    let less : last.number < c.args.number = grind (arith, nat_tests) in
    below-end c.args.number es (length es - 1) last (let some = item.0 in omega arith) c.requires (rw (← item.1 last) less)
