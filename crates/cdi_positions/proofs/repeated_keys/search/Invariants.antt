use Rattle.std.proofs.Common.{◌≡◌, [], length}
use Rattle.json.specs.Lex.{tokens}
use Rattle.cdi_positions.specs.RepeatedKey.{repeated_in}
use Rattle.cdi_positions.proofs.repeated_keys.search.Given as goal

abbrev pub invariant-loop-token : goal.invariant-loop-token
invariant-loop-token l = repeated_in l.objects l.reader ≡ repeated_in [] (tokens l.text)

abbrev pub decreases-loop-token : goal.decreases-loop-token
decreases-loop-token l = length l.reader
