-- What a command was admitted as is carried out as the command is, also if less is legal by then.
use Rattle.std.proofs.Common.{◌≡◌, ℕ, List, Result, Ok, Err, IfOk, sym, subst}
use Rattle.cdi_base.specs.declared.command.Command.{Command as Read}
use Rattle.cdi_base.specs.declared.reply.Reply.{Reply}
use Rattle.cdi_machine.specs.Commands.{Command, task}
use Rattle.cdi_machine.specs.Laws.{IsWithin}
use Rattle.cdi_machine.specs.Runs.{Legal}
use Rattle.cdi_machine.specs.Tables.{Tables}
use Rattle.cdi_machine.specs.World.{at_begin}
use Rattle.cdi_steps.specs.Words.{command_of}
use Rattle.cdi_steps.specs.declared.task.Job.{Job}
use Rattle.cdi_text.specs.Command.{command_in}
use Rattle.cdi_container.specs.Commands.{machine_command}
use Rattle.cdi_container.specs.KnownLines.{AreKnown, Asks}
use Rattle.cdi_container.specs.Sessions.{AnswersRead}
use Rattle.cdi_container.specs.Standing.{ContainerParts, SameParts, names_of, state_of, tables_of}
use Rattle.cdi_container.specs.States.{AnswersCommand, ContainerState}
use Rattle.cdi_container.specs.Turns.{AdmitsCommand, CanBegin}
use Rattle.cdi_container.specs.declared.known_lines.KnownLines.{KnownLines}
use Rattle.cdi_container.specs.declared.left.Unadmitted.{Unadmitted}
use Rattle.cdi_container.specs.declared.left.Unadmitted.TheVariants as unadmitted
use Rattle.cdi_container.proofs.Turning.{carried_more}

-- an answer stays one if more is legal
answered_more : (tables : Tables) {small large : Legal} → IsWithin small large → (s t : ContainerState) (c : Command) (reply : Reply)
    → AnswersCommand tables small (Unit {0}) s c reply t → AnswersCommand tables large (Unit {0}) s c reply t
answered_more tables i s t c reply (AnswersCommand.refuses r e is stays) = AnswersCommand.refuses r e is stays
answered_more tables i s t c reply (AnswersCommand.carries_out o e k halts is) =
    AnswersCommand.carries_out o e (carried_more tables i (task c) (at_begin s.world) t.world o k) halts is
answered_more tables i s t c reply (AnswersCommand.lacks_memory x asks e is halts) = AnswersCommand.lacks_memory x asks e is halts

admitted_begins : (tables : Tables) (s t : ContainerState) (c : Command) (r : Result Job Unadmitted) → AdmitsCommand tables s c r t → IfOk r (CanBegin tables t)
admitted_begins tables s t c (Ok job) told = subst (λ x. CanBegin tables x job) (sym told.3) told.1
admitted_begins tables s t c (Err (unadmitted.Refused r)) told = tt
admitted_begins tables s t c (Err unadmitted.Starves) told = tt

module _ {Driving : Type 0} {before after : Legal} {a b : ContainerParts Driving} (same : SameParts before after a b) (c : Command) (r : Result Job Unadmitted) (admits : AdmitsCommand (tables_of a) (state_of a) c r (state_of b)) where
  admits_there : AdmitsCommand (tables_of b) (state_of a) c r (state_of b)
  admits_there = subst (λ tables. AdmitsCommand tables (state_of a) c r (state_of b)) (sym same.parts.tables) admits

  -- what was admitted can begin
  pub ready : IfOk r (CanBegin (tables_of b) (state_of b))
  ready = admitted_begins (tables_of b) (state_of a) (state_of b) c r admits_there

  -- and is answered as the command is
  pub answered_before : {t : ContainerState} {reply : Reply}
      → (AdmitsCommand (tables_of b) (state_of a) c r (state_of b) → AnswersCommand (tables_of b) after (Unit {0}) (state_of a) c reply t)
      → AnswersCommand (tables_of a) before (Unit {0}) (state_of a) c reply t
  answered_before {t = t} {reply = reply} answers =
      answered_more (tables_of a) same.parts.legal (state_of a) t c reply
      (subst (λ tables. AnswersCommand tables after (Unit {0}) (state_of a) c reply t) same.parts.tables (answers admits_there))

-- a line asks for what its command was admitted as
pub asked_if : (names : List (List ℕ)) (line : List ℕ) (command : Read) → command_in line ≡ Ok command
    → (tables : Tables) (s t : ContainerState) (r : Result Job Unadmitted) → AdmitsCommand tables s (machine_command names command) r t
    → IfOk r (λ job. Asks names tables line job)
asked_if names line command read tables s t (Ok job) told = record { command = command; read = read; asks = told.0; rightly = told.2 }
asked_if names line command read tables s t (Err (unadmitted.Refused r)) told = tt
asked_if names line command read tables s t (Err unadmitted.Starves) told = tt

-- a line is answered as its job is
pub answers_asked : (names : List (List ℕ)) (tables : Tables) (line : List ℕ) (job : Job) → Asks names tables line job
    → {legal : Legal} {s t : ContainerState} {reply : Reply} → AnswersCommand tables legal (Unit {0}) s (command_of job) reply t
    → AnswersRead names tables legal (Unit {0}) (command_in line) s reply t
answers_asked names tables line job asks {legal = legal} {s = s} {t = t} {reply = reply} answers =
    subst (λ r. AnswersRead names tables legal (Unit {0}) r s reply t) (sym asks.read)
    (subst (λ c. AnswersCommand tables legal (Unit {0}) s c reply t) asks.asks answers)

-- lines stay known while the names and the tables stay
pub stay_known : {Driving : Type 0} {before after : Legal} {a b : ContainerParts Driving} → SameParts before after a b
    → (lines : KnownLines) → AreKnown (names_of a) (tables_of a) lines → AreKnown (names_of b) (tables_of b) lines
stay_known {a = a} {b = b} same lines known =
    subst (λ tables. AreKnown (names_of b) tables lines) (sym same.parts.tables)
    (subst (λ (names : List (List ℕ)). AreKnown names (tables_of a) lines) (sym same.parts.names) known)
