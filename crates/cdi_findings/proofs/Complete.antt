-- Each word that the program writes for a problem, a refusal or a cause stands among those that are explained.
use Rattle.std.proofs.Common.{ℕ, List, [], ◌∷◌, codes, refl, arith}
use Rattle.std.specs.List.{Contains}
use Rattle.cdi_base.specs.declared.reply.Cause.{Cause}
use Rattle.cdi_base.specs.declared.reply.Cause.TheVariants as causes
use Rattle.cdi_base.specs.declared.reply.Refusal.{Refusal}
use Rattle.cdi_base.specs.declared.reply.Refusal.TheVariants as refusals
use Rattle.cdi_problems.specs.declared.problem.ProblemKind.{ProblemKind}
use Rattle.cdi_problems.specs.declared.problem.ProblemKind.TheVariants as kinds
use Rattle.cdi_base.specs.declared.entry.Entry.{Entry}
use Rattle.cdi_base.specs.declared.entry.Entry.TheVariants as entries
use Rattle.cdi_base.specs.declared.reply.Reply.{Reply}
use Rattle.cdi_base.specs.declared.reply.Reply.TheVariants as replies
use Rattle.cdi_base.specs.Words.{cause_word, refusal_word}
use Rattle.cdi_problems.specs.Places.{name_text}
use Rattle.cdi_text.specs.EntryText.{act_data, entry_data, name_data, place_data, uses_data}
use Rattle.cdi_text.specs.ReplyText.{number_data, numbers_data, reply_data, value_data}
use Rattle.serde_json.specs.Data.{string}
use Rattle.cdi_findings.specs.Words.{AreComplete, BeginsWithOne, all_problems, all_refusals, all_causes, reply_words, entry_words}

problem : (x : ProblemKind) → Contains all_problems x
problem kinds.DuplicateName = (0, omega arith, refl)
problem kinds.UnknownName = (1, omega arith, refl)
problem kinds.CyclicHierarchy = (2, omega arith, refl)
problem kinds.AbstractBean = (3, omega arith, refl)
problem kinds.TypedNotAType = (4, omega arith, refl)
problem kinds.SpecializesNothing = (5, omega arith, refl)
problem kinds.SpecializedTypeLost = (6, omega arith, refl)
problem kinds.UnmatchedDisposer = (7, omega arith, refl)
problem kinds.TwoDisposers = (8, omega arith, refl)
problem kinds.ConditionalDependent = (9, omega arith, refl)
problem kinds.TwoBindingsOfOneType = (10, omega arith, refl)
problem kinds.UnknownBody = (11, omega arith, refl)
problem kinds.BodyOutsideShape = (12, omega arith, refl)
problem kinds.ProceedNotAllowed = (13, omega arith, refl)
problem kinds.CheckedLifecycle = (14, omega arith, refl)
problem kinds.Unsatisfied = (15, omega arith, refl)
problem kinds.Ambiguous = (16, omega arith, refl)
problem kinds.Unproxyable = (17, omega arith, refl)
problem kinds.InconsistentSpecialization = (18, omega arith, refl)
problem kinds.DependentCycle = (19, omega arith, refl)
problem kinds.FinalIntercepted = (20, omega arith, refl)
problem kinds.TooMany = (21, omega arith, refl)

refusal : (x : Refusal) → Contains all_refusals x
refusal refusals.BadLine = (0, omega arith, refl)
refusal refusals.Halted = (1, omega arith, refl)
refusal refusals.Down = (2, omega arith, refl)
refusal refusals.Busy = (3, omega arith, refl)
refusal refusals.NoRequest = (4, omega arith, refl)
refusal refusals.RequestOpen = (5, omega arith, refl)
refusal refusals.NoSession = (6, omega arith, refl)
refusal refusals.SessionEnding = (7, omega arith, refl)
refusal refusals.TooManyRequests = (8, omega arith, refl)
refusal refusals.TooManySessions = (9, omega arith, refl)
refusal refusals.UnknownName = (10, omega arith, refl)
refusal refusals.NoMethod = (11, omega arith, refl)
refusal refusals.WrongCount = (12, omega arith, refl)

cause : (x : Cause) → Contains all_causes x
cause causes.Ticks = (0, omega arith, refl)
cause causes.Depth = (1, omega arith, refl)
cause causes.Numbers = (2, omega arith, refl)
cause causes.Memory = (3, omega arith, refl)

reply : (names : List (List ℕ)) (x : Reply) → BeginsWithOne reply_words (reply_data names x)
reply names (replies.Value value) = record { word = codes "value"; others = value_data value ∷ []; is_one = (0, omega arith, refl); begins = refl }
reply names (replies.Threw class) = record { word = codes "threw"; others = string (name_text names class) ∷ []; is_one = (1, omega arith, refl); begins = refl }
reply names replies.Done = record { word = codes "done"; others = []; is_one = (2, omega arith, refl); begins = refl }
reply names (replies.Live numbers) = record { word = codes "live"; others = numbers_data numbers ∷ []; is_one = (3, omega arith, refl); begins = refl }
reply names (replies.Refused refusal) = record { word = codes "refused"; others = string (refusal_word refusal) ∷ []; is_one = (4, omega arith, refl); begins = refl }
reply names (replies.Halted cause) = record { word = codes "halted"; others = string (cause_word cause) ∷ []; is_one = (5, omega arith, refl); begins = refl }

entry : (names : List (List ℕ)) (x : Entry) → BeginsWithOne entry_words (entry_data names x)
entry names (entries.New number bean) = record { word = codes "new"; others = number_data number ∷ place_data names bean ∷ []; is_one = (0, omega arith, refl); begins = refl }
entry names (entries.Ready number) = record { word = codes "ready"; others = number_data number ∷ []; is_one = (1, omega arith, refl); begins = refl }
entry names (entries.Drop number) = record { word = codes "drop"; others = number_data number ∷ []; is_one = (2, omega arith, refl); begins = refl }
entry names (entries.Run number member) = record { word = codes "run"; others = number_data number ∷ place_data names member ∷ []; is_one = (3, omega arith, refl); begins = refl }
entry names (entries.Did act) = record { word = codes "did"; others = act_data names act ∷ []; is_one = (4, omega arith, refl); begins = refl }
entry names (entries.Pick count choice) = record { word = codes "pick"; others = number_data count ∷ number_data choice ∷ []; is_one = (5, omega arith, refl); begins = refl }
entry names (entries.Event class qualifiers) = record { word = codes "event"; others = name_data names class ∷ uses_data names qualifiers ∷ []; is_one = (6, omega arith, refl); begins = refl }
entry names (entries.End number) = record { word = codes "end"; others = number_data number ∷ []; is_one = (7, omega arith, refl); begins = refl }
entry names (entries.Gone number) = record { word = codes "gone"; others = number_data number ∷ []; is_one = (8, omega arith, refl); begins = refl }

pub complete : AreComplete
complete = record { problems = problem; refusals = refusal; causes = cause; replies = reply; entries = entry }
