-- What a reader answers, beside what reading gives as a function.
use Rattle.std.specs.Prelude.{◌≡◌, Result, Ok, Err}
use Rattle.cdi_base.specs.declared.or_memory.OrMemory.{OrMemory}
use Rattle.cdi_base.specs.declared.or_memory.OrMemory.TheVariants as errors

infixl 10 ◌>>=◌
abbrev pub ◌>>=◌ : {A B F : Type 0} → Result A F → (A → Result B F) → Result B F
(Ok x) >>= next = next x
(Err fault) >>= next = Err fault

-- an error is the fault that reading gives, unless memory ran out
abbrev pub Fails : {A F : Type 0} → OrMemory F → Result A F → Type 0
Fails errors.Memory read = Unit {0}
Fails (errors.Fault fault) read = read ≡ Err fault

-- what was answered, seen by view, is what reading gives, unless memory ran out
abbrev pub Gives : {A B F : Type 0} → (A → B) → Result A (OrMemory F) → Result B F → Type 0
Gives view (Ok x) read = read ≡ Ok (view x)
Gives view (Err error) read = Fails error read

-- the answer is this fault, and no want of memory
abbrev pub IsFault : {A F : Type 0} → Result A (OrMemory F) → F → Type 0
IsFault answer fault = answer ≡ Err (errors.Fault fault)
