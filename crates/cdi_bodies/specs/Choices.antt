-- What a choice has to promise.
use Rattle.std.specs.Prelude.{ℕ, ◌<◌, ◌^◌}

-- it may be asked for any number of candidates that isn't 0, after any number of entries
abbrev pub IsAskable : (ℕ → ℕ → Type 0) → Type 0
IsAskable may_ask =
    (count entries : ℕ) → 0 < count → count < 2 ^ 32 → entries < 2 ^ 64 → may_ask count entries

-- what it then answers is below the number of candidates
abbrev pub AnswersBelow : (ℕ → ℕ → ℕ → Type 0) → Type 0
AnswersBelow promise =
    (count entries answer : ℕ) → 0 < count → count < 2 ^ 32 → entries < 2 ^ 64
    → promise count entries answer → answer < count
