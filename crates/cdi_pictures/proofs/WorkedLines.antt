-- The worked lines, by computing them.
use Rattle.std.proofs.Common.{refl}
use Rattle.std.specs.Fmt.{digits}
use Rattle.cdi_pictures.specs.Points.{others_line}
use Rattle.cdi_pictures.specs.WorkedLines.{WorkedLines}

pub worked_lines : WorkedLines
unfolding digits others_line
worked_lines =
    record {
      nodes = record { product = refl; interceptor = refl };
      points = λ t. record { one = refl; none = refl; several = refl; not_live = refl };
      whole = refl;
    }
