-- The worked lines, by computing them.
use Rattle.std.proofs.Common.{refl}
use Rattle.std.specs.Fmt.{digits}
use Rattle.json.specs.Print.{escape_byte}
use Rattle.cdi_shell.specs.WorkedLines.{WorkedLines}

pub worked_lines : WorkedLines
unfolding escape_byte digits
worked_lines =
    record {
      replied = record { one = refl; null = refl; text = refl; threw = refl; done = refl; live = refl; refused = refl; halted = refl };
      refused = record { not_json = refl; shape = refl; root = refl; script = refl; body = refl; many = refl };
      split = record { nothing = refl; whole = refl; begun = refl; complete = refl; empty = refl };
      asked = record { served = refl; type = refl; method = refl; count = refl; no_bean = refl };
    }
