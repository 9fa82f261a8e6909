-- What a container takes for granted holds of a deployment that was made ready.
use Rattle.std.proofs.Common.{ℕ, ◌≡◌, List, Ok, Result, IfOk, subst}
use Rattle.cdi_prepare.specs.Ready.{Readied, readied_in}
use Rattle.cdi_prepare.specs.Scripts.{registered}
use Rattle.cdi_report.proofs.WellFormed.{reads_well_formed}
use Rattle.cdi_report.specs.WellFormed.{IsWellFormed}
use Rattle.cdi_shell.specs.Drive.{IsWellFormedWith}

pub formed_with : (bytes : List ℕ) (r : Readied) → readied_in bytes ≡ Ok r → IsWellFormedWith (registered r.scripts) r.deployment
formed_with bytes r e t are =
    let P : Result Readied (List ℕ) → Type 0 = λ found. IfOk found IsWellFormed in
    subst P e (reads_well_formed bytes) t are.deployment_is are.tabled
