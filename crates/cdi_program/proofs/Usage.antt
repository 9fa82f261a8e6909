-- What is answered where the words ask for nothing to run.
use Rattle.std.proofs.Common.{◌≡◌, ◌⊎◌, List, ℕ, inl, inr, subst}
use Rattle.clap.specs.Words.{IsAmong, Text}
use Rattle.clap.specs.declared.error.kind.ErrorKind.{ErrorKind}
use Rattle.clap.specs.declared.error.kind.ErrorKind.TheVariants as kinds
use Rattle.cdi_options.specs.Options.{faults_in}
use Rattle.cdi_program.specs.Program.{AnswersWith, AnswersUsage, RunsWords}
use Rattle.cdi_program.specs.Streams.{Ends, IsUntouched, Output}
use Rattle.cdi_program.specs.Telling.{PassesOn}

-- some text is told
abbrev TellsSome : Output → Output → Type 0
TellsSome old new = (text : List ℕ) × PassesOn text old new

-- want of memory shows nothing, and is status 3
starved : (ends : Ends) (status : ℕ) → AnswersUsage kinds.OutOfMemory ends status → IsUntouched ends × TellsSome ends.errors ends.errors_after × (status ≡ 3)
starved ends status (AnswersUsage.answers text (AnswersWith.shows is s)) = absurd cc
starved ends status (AnswersUsage.answers text (AnswersWith.mistaken is p u s)) = (u, (text, p), s)
starved ends status (AnswersUsage.starves u p s) = (u, (_, p), s)

-- an error of a parse is answered by its kind, which is one of those of the words, or want of memory
pub usage : (gives : List ℕ → ℕ → List ℕ → Type 0) (unreadable : List ℕ → Type 0) (words : List Text) (kind : ErrorKind) (ends : Ends) (status : ℕ)
    → (kind ≡ kinds.OutOfMemory) ⊎ IsAmong kind (faults_in words) → AnswersUsage kind ends status → RunsWords gives unreadable words ends status
usage gives unreadable words kind ends status (inl e) a =
    let p = starved ends status (subst (λ (k : ErrorKind). AnswersUsage k ends status) e a) in RunsWords.starves p.0 p.1.0 p.1.1 p.2
usage gives unreadable words kind ends status (inr among) a = RunsWords.tells kind among a
