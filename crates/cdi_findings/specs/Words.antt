-- The words that are explained: those that the program writes.
use Rattle.std.specs.Prelude.{ℕ, ◌≡◌, List, [], ◌∷◌, ◌++◌, codes, map}
use Rattle.std.specs.List.{Contains}
use Rattle.cdi_base.specs.BuiltIn.{text_of}
use Rattle.cdi_base.specs.Words.{refusal_word, cause_word}
use Rattle.cdi_base.specs.declared.built_in.BuiltIn.{BuiltIn}
use Rattle.cdi_base.specs.declared.built_in.BuiltIn.TheVariants as names
use Rattle.cdi_base.specs.declared.reply.Cause.{Cause}
use Rattle.cdi_base.specs.declared.reply.Cause.TheVariants as causes
use Rattle.cdi_base.specs.declared.entry.Entry.{Entry}
use Rattle.cdi_base.specs.declared.reply.Refusal.{Refusal}
use Rattle.cdi_base.specs.declared.reply.Refusal.TheVariants as refusals
use Rattle.cdi_base.specs.declared.reply.Reply.{Reply}
use Rattle.cdi_problems.specs.Words.{kind_text}
use Rattle.cdi_problems.specs.declared.problem.ProblemKind.{ProblemKind}
use Rattle.cdi_problems.specs.declared.problem.ProblemKind.TheVariants as kinds
use Rattle.cdi_text.specs.EntryText.{entry_data, worded}
use Rattle.cdi_text.specs.ReplyText.{reply_data}
use Rattle.serde_json.specs.Data.{Data}

-- of deployments and scripts that can't be read
abbrev pub fault_words : List (List ℕ)
fault_words =
    codes "TooLong" ∷ codes "NotJson" ∷ codes "BadNumber" ∷ codes "Shape" ∷ codes "BadName"
    ∷ codes "TooMany" ∷ codes "BadStep" ∷ codes "Full" ∷ []

-- of deployments that can be read, but probably say something else than was meant
abbrev pub warning_words : List (List ℕ)
warning_words = codes "RepeatedKey" ∷ []

abbrev pub all_problems : List ProblemKind
all_problems =
    kinds.DuplicateName ∷ kinds.UnknownName ∷ kinds.CyclicHierarchy ∷ kinds.AbstractBean
    ∷ kinds.TypedNotAType ∷ kinds.SpecializesNothing ∷ kinds.SpecializedTypeLost
    ∷ kinds.UnmatchedDisposer ∷ kinds.TwoDisposers ∷ kinds.ConditionalDependent
    ∷ kinds.TwoBindingsOfOneType ∷ kinds.UnknownBody ∷ kinds.BodyOutsideShape
    ∷ kinds.ProceedNotAllowed ∷ kinds.CheckedLifecycle ∷ kinds.Unsatisfied ∷ kinds.Ambiguous
    ∷ kinds.Unproxyable ∷ kinds.InconsistentSpecialization ∷ kinds.DependentCycle
    ∷ kinds.FinalIntercepted ∷ kinds.TooMany ∷ []

-- with their numbers
abbrev pub problem_words : List (List ℕ)
problem_words = map kind_text all_problems

-- in the order in which they are looked at
abbrev pub all_refusals : List Refusal
all_refusals =
    refusals.BadLine ∷ refusals.Halted ∷ refusals.Down ∷ refusals.Busy ∷ refusals.NoRequest
    ∷ refusals.RequestOpen ∷ refusals.NoSession ∷ refusals.SessionEnding
    ∷ refusals.TooManyRequests ∷ refusals.TooManySessions ∷ refusals.UnknownName
    ∷ refusals.NoMethod ∷ refusals.WrongCount ∷ []

abbrev pub refusal_words : List (List ℕ)
refusal_words = map refusal_word all_refusals

abbrev pub all_causes : List Cause
all_causes = causes.Ticks ∷ causes.Depth ∷ causes.Numbers ∷ causes.Memory ∷ []

abbrev pub cause_words : List (List ℕ)
cause_words = map cause_word all_causes

abbrev pub all_exceptions : List BuiltIn
all_exceptions =
    names.ContextNotActiveException ∷ names.CreationException ∷ names.IllegalProductException
    ∷ names.IllegalStateException ∷ names.IllegalArgumentException ∷ names.NullPointerException
    ∷ names.ObserverException ∷ names.UnsatisfiedResolutionException
    ∷ names.AmbiguousResolutionException ∷ []

abbrev pub exception_words : List (List ℕ)
exception_words = map text_of all_exceptions

-- with which the replies to commands begin
abbrev pub reply_words : List (List ℕ)
reply_words =
    codes "value" ∷ codes "threw" ∷ codes "done" ∷ codes "live" ∷ codes "refused" ∷ codes "halted"
    ∷ []

-- with which the entries of a trace begin
abbrev pub entry_words : List (List ℕ)
entry_words =
    codes "new" ∷ codes "ready" ∷ codes "drop" ∷ codes "run" ∷ codes "did" ∷ codes "pick"
    ∷ codes "event" ∷ codes "end" ∷ codes "gone" ∷ []

abbrev pub words : List (List ℕ)
words =
    fault_words ++ (warning_words ++ (problem_words ++ (refusal_words ++ (cause_words
    ++ (exception_words ++ (reply_words ++ entry_words))))))

-- what is written is a list that begins with one of these words
pub record BeginsWithOne (words : List (List ℕ)) (written : Data) : Type 0 where
  pub word : List ℕ
  pub others : List Data
  pub is_one : Contains words word
  pub begins : written ≡ worded word others

-- each problem, each refusal, each cause of a cut, and the first word of each reply and entry, is among those that are explained
pub record AreComplete : Type 0 where
  pub problems : (kind : ProblemKind) → Contains all_problems kind
  pub refusals : (refusal : Refusal) → Contains all_refusals refusal
  pub causes : (cause : Cause) → Contains all_causes cause
  pub replies : (names : List (List ℕ)) (reply : Reply)
      → BeginsWithOne reply_words (reply_data names reply)
  pub entries : (names : List (List ℕ)) (entry : Entry)
      → BeginsWithOne entry_words (entry_data names entry)
