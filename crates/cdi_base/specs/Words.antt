-- The words that replies are written with.
use Rattle.std.specs.Prelude.{ℕ, List, codes}
use Rattle.cdi_base.specs.declared.reply.Refusal.{Refusal}
use Rattle.cdi_base.specs.declared.reply.Refusal.TheVariants as refusals
use Rattle.cdi_base.specs.declared.reply.Cause.{Cause}
use Rattle.cdi_base.specs.declared.reply.Cause.TheVariants as causes

abbrev pub refusal_word : Refusal → List ℕ
refusal_word refusals.BadLine = codes "BadLine"
refusal_word refusals.Halted = codes "Halted"
refusal_word refusals.Down = codes "Down"
refusal_word refusals.Busy = codes "Busy"
refusal_word refusals.NoRequest = codes "NoRequest"
refusal_word refusals.RequestOpen = codes "RequestOpen"
refusal_word refusals.NoSession = codes "NoSession"
refusal_word refusals.SessionEnding = codes "SessionEnding"
refusal_word refusals.TooManyRequests = codes "TooManyRequests"
refusal_word refusals.TooManySessions = codes "TooManySessions"
refusal_word refusals.UnknownName = codes "UnknownName"
refusal_word refusals.NoMethod = codes "NoMethod"
refusal_word refusals.WrongCount = codes "WrongCount"

abbrev pub cause_word : Cause → List ℕ
cause_word causes.Ticks = codes "ticks"
cause_word causes.Depth = codes "depth"
cause_word causes.Numbers = codes "numbers"
cause_word causes.Memory = codes "memory"
