-- Which failures a driver may tell.
use Rattle.cdi_machine.specs.declared.driver.Failure.{Failure}
use Rattle.cdi_machine.specs.declared.driver.Failure.TheVariants.{Memory, Exhausted}
use Rattle.cdi_machine.specs.Hearing.{Hearing, HasNotEnded, HasEnded}

-- memory may always run out, but a driver that has ended tells just that; one that can't end has always something to give
abbrev pub IsFailureOf
    : Type 0 → (Hearing → Type 0) → (Hearing → Type 0) → (Hearing → Type 0) → Failure → Type 0
IsFailureOf MayEnd before then ended Memory = HasNotEnded before then
IsFailureOf MayEnd before then ended Exhausted = HasEnded MayEnd before ended
