-- A container that answers lines.
use Rattle.std.specs.Prelude.{ℕ, ◌≡◌, ◌++◌, Bool, List, Option, Result, Ok, Err}
use Rattle.cdi_base.specs.declared.command.Command.{Command}
use Rattle.cdi_base.specs.declared.reply.Refusal.TheVariants as refusals
use Rattle.cdi_base.specs.declared.reply.Reply.{Reply}
use Rattle.cdi_base.specs.declared.reply.Reply.TheVariants as replies
use Rattle.cdi_text.specs.declared.command.BadLine.{BadLine}
use Rattle.cdi_text.specs.Command.{command_in}
use Rattle.cdi_text.specs.EntryText.{shown_lines}
use Rattle.cdi_text.specs.ReplyText.{reply_line}
use Rattle.cdi_lines.specs.declared.fault.ServeFault.{ServeFault}
use Rattle.cdi_lines.specs.declared.fault.ServeFault.TheVariants as faults
use Rattle.cdi_lines.specs.Served.{Serves}
use Rattle.cdi_machine.specs.Tables.{Tables}
use Rattle.cdi_machine.specs.Runs.{Legal}
use Rattle.cdi_container.specs.Commands.{machine_command}
use Rattle.cdi_container.specs.Standing.{ContainerParts, SameParts, names_of, tables_of, state_of}
use Rattle.cdi_container.specs.States.{ContainerState, AnswersCommand, after_refusal}

-- what answers lines: a container, whether the entries of each command stand before its reply, and by turns of how many entries
-- it is carried out
pub record SessionParts (Driving : Type 0) : Type 0 where
  pub container : ContainerParts Driving
  pub shows_trace : Bool
  pub slice : ℕ

-- a reply in a state: the entries of the command if they are shown, and its line
abbrev pub reply_in : List (List ℕ) → Bool → Reply → ContainerState → List ℕ
reply_in names shows reply s = shown_lines names shows s.world.trace ++ reply_line names reply

-- what was read as a command is answered so, and a line that is none is refused
abbrev pub AnswersRead : List (List ℕ) → Tables → Legal → Type 0
    → Result Command BadLine → ContainerState → Reply → ContainerState → Type 0
AnswersRead names tables legal Starved (Ok command) s reply t =
    AnswersCommand tables legal Starved s (machine_command names command) reply t
AnswersRead names tables legal Starved (Err bad) s reply t =
    (reply ≡ replies.Refused refusals.BadLine) × (t ≡ after_refusal s)

-- a line is answered by a reply
abbrev pub AnswersLine : Bool → List (List ℕ) → Tables → Legal → Type 0
    → ContainerState → List ℕ → List ℕ → ContainerState → Type 0
AnswersLine shows names tables legal Starved s line text t =
    (reply : Reply) × AnswersRead names tables legal Starved (command_in line) s reply t
    × (text ≡ reply_in names shows reply t)

-- the same in a session, whose other parts stay
pub record AnswersSo {Driving : Type 0} (before after : Legal) (s : SessionParts Driving)
    (line text : List ℕ) (t : SessionParts Driving) : Type 0 where
  pub same : SameParts before after s.container t.container
  pub shows : t.shows_trace ≡ s.shows_trace
  pub slice : t.slice ≡ s.slice
  pub answers : AnswersLine s.shows_trace (names_of s.container) (tables_of s.container) before
      (Unit {0}) (state_of s.container) line text (state_of t.container)

-- Lines were served to an end, behind a greeting. If there is no memory for that, nothing is read or written.
pub data Served {S : Type 0} (limit : ℕ) (answers : S → List ℕ → List ℕ → S → Type 0)
    (greeting : List ℕ) (s t : S) (unread unread_after held held_after : Option (List ℕ))
    : Result (Unit {0}) ServeFault → Type 0 where
  silent : t ≡ s → unread_after ≡ unread → held_after ≡ held
      → Served limit answers greeting s t unread unread_after held held_after (Err faults.Memory)
  serves : {result : Result (Unit {0}) ServeFault}
      → Serves limit answers greeting s t result unread unread_after held held_after
      → Served limit answers greeting s t unread unread_after held held_after result

-- what a session greets by: the reply to the start of its container
abbrev pub greeting_of : {Driving : Type 0} → SessionParts Driving → List ℕ
greeting_of s =
    reply_in (names_of s.container) s.shows_trace s.container.booted (state_of s.container)

-- a session was served, which greets so
abbrev pub ServedBy : {Driving : Type 0} → ℕ → (Driving → Legal)
    → SessionParts Driving → SessionParts Driving
    → Option (List ℕ) → Option (List ℕ) → Option (List ℕ) → Option (List ℕ)
    → Result (Unit {0}) ServeFault → Type 0
ServedBy limit legal s t unread unread_after held held_after result =
    Served limit
    (λ s line text t.
    AnswersSo (legal s.container.runtime.driver) (legal t.container.runtime.driver) s line text t)
    (greeting_of s) s t unread unread_after held held_after result
