-- What is told behind a list that is not too long.
use Rattle.std.proofs.Common.{◌≡◌, Option, None, Err, refl}
use Rattle.std.specs.Option.{option_or}
use Rattle.cdi_base.specs.declared.or_memory.OrMemory.{OrMemory}
use Rattle.cdi_base.specs.declared.or_memory.OrMemory.TheVariants as errors
use Rattle.cdi_prepare.specs.LongList.{Tells}
use Rattle.cdi_prepare.specs.declared.hint.Mistake.{Mistake}

pub told-behind : (o p q : Option Mistake) (e : OrMemory Mistake) → o ≡ None → Tells p (Err e) → Tells (option_or o (option_or p q)) (Err e)
told-behind o p q errors.Memory none told = tt
told-behind o p q (errors.Fault mistake) none told = rw (none, told) refl
