use Rattle.std.proofs.Common.{◌≡◌, ◌<◌, ◌+◌, ◌++◌, ◌∷◌, [], get_or, length, take, arith}
use Rattle.std.proofs.lemmas.List.{take_more, take_all, get_or_default}
use Rattle.cdi_paths.proofs.Reversal.{target_more}
use Rattle.cdi_paths.proofs.reversed.add_source.Goals as goal

pub loop-target-preserved : goal.loop-target-preserved
loop-target-preserved c =
    let i = c.loop-target in
    let targets = c.args.targets.now in
    let target = get_or targets i.target-index 0 in
    let lt : i.target-index < length targets = omega arith in
    let grown : take (i.target-index + 1) targets ≡ take i.target-index targets ++ target ∷ [] = take_more targets i.target-index 0 lt in
    let within : target < length i.rows = omega (arith, c.requires i.target-index 0 lt, i.auto.rows) in
    let also = rw (get_or_default i.rows target c.index-rows-target.result [] within) at c.in_ok-add_to_row.ensures in
    record { so_far = rw grown (target_more c.args.node (take i.target-index targets) c.args.rows.now i.rows i.invariant.so_far target within c.add_to_row.new.row also) }

pub returns : goal.returns
returns c =
    let i = c.loop-target in
    let targets = c.args.targets.now in
    let all : take i.target-index targets ≡ targets = take_all i.target-index targets (omega arith) in
    rw all at i.invariant.so_far
