-- The exceptions that a container of a deployment which was read replies are told by names, and none by the empty text.
use Rattle.std.specs.Prelude.{ℕ, ◌≡◌, Bool, List, [], IsTrue, IfOk}
use Rattle.cdi_base.specs.declared.reply.Reply.{Reply}
use Rattle.cdi_base.specs.declared.reply.Reply.TheVariants as replies
use Rattle.cdi_base.specs.Name.{is_name}
use Rattle.cdi_bodies.specs.declared.entry.Entry.{Entry}
use Rattle.cdi_ledger.specs.Ledger.{Item}
use Rattle.cdi_machine.specs.Commands.{Command}
use Rattle.cdi_machine.specs.Registered.{legal_of}
use Rattle.cdi_machine.specs.Runs.{Legal}
use Rattle.cdi_machine.specs.Tables.{Tables}
use Rattle.cdi_prepare.specs.Scripts.{registered}
use Rattle.cdi_report.specs.Reports.{AreProblemsWith}
use Rattle.cdi_run_tables.specs.Machine.{machine_tables}
use Rattle.cdi_run_tables.specs.declared.tables.RunTables.{RunTables}
use Rattle.cdi_text.specs.Command.{command_in}
use Rattle.cdi_problems.specs.Places.{name_text}
use Rattle.cdi_base.specs.declared.settings.Settings.{Settings}
use Rattle.cdi_container.specs.Accepted.{IsAccepted}
use Rattle.cdi_container.specs.History.{History}
use Rattle.cdi_container.specs.Sessions.{AnswersRead, Served, reply_in}
use Rattle.cdi_container.specs.States.{ContainerState, AnswersCommand}
use Rattle.cdi_prepare.specs.Ready.{readied_in}
use Rattle.cdi_shell.specs.declared.ending.Ending.{Ending}
use Rattle.cdi_shell.specs.Drive.{AreTablesWith, Lives, Streams, legal_by}

-- if the reply tells an exception, then the text in its line is a name: 1 to 255 letters, digits, `_`, `.` and `$`
abbrev pub TellsTrueName : List (List ℕ) → Reply → Type 0
TellsTrueName names (replies.Threw class) = IsTrue (is_name (name_text names class))
TellsTrueName names _ = Unit {0}

-- each exception that a container of these tables replies is told by a name
abbrev pub TellsThem : RunTables → Legal → Type 0
TellsThem t legal =
    (s u : ContainerState) (h : List Item) → History (machine_tables t) legal (Unit {0}) s h
    → (c : Command) (reply : Reply)
    → AnswersCommand (machine_tables t) legal (Unit {0}) s c reply u
    → TellsTrueName t.deployment.names reply

-- In a container of a deployment that bytes are with its scripts, accepted with bodies of these entries, each exception
-- that is replied is told by a name.
abbrev pub TellsTrueNames : {X : Type 0} {F : X → Type 0} {g : _} → List (Entry X F g) → Type 0
TellsTrueNames entries =
    (bytes : List ℕ) → IfOk (readied_in bytes) (λ r.
    (t : RunTables) → IsAccepted r.deployment entries t → TellsThem t (legal_of entries))

-- ---- the lines of a run

-- a line is answered by a reply, and this tells its exception, if it has one, by a name
abbrev pub AnswersByName : Bool → List (List ℕ) → Tables → Legal → ContainerState → List ℕ → List ℕ → ContainerState → Type 0
AnswersByName shows names tables legal s line text t =
    (reply : Reply) × AnswersRead names tables legal (Unit {0}) (command_in line) s reply t
    × (text ≡ reply_in names shows reply t) × TellsTrueName names reply

-- a container lives in a run, and all its lines tell their exceptions by names
pub record LivesByNames (o : Settings) (t : RunTables) (legal : Legal) (streams : Streams)
    (ending : Ending) : Type 0 where
  pub lives : Lives o t legal streams ending
  pub start : TellsTrueName t.deployment.names lives.reply
  pub served : Served 16777216 (AnswersByName o.shows_trace t.deployment.names (machine_tables t) legal)
      (reply_in t.deployment.names o.shows_trace lives.reply lives.started) lives.started lives.ended
      streams.unread streams.unread_after streams.held streams.held_after lives.result

-- Whatever run of the program there is on the bytes of a deployment: if its container lives, it does so by names.
abbrev pub LinesTellTrueNames : Type 0
LinesTellTrueNames =
    (bytes : List ℕ) → IfOk (readied_in bytes) (λ r.
    (t : RunTables) → AreProblemsWith (registered r.scripts) r.deployment []
    → AreTablesWith (registered r.scripts) r.deployment t
    → (o : Settings) (streams : Streams) (ending : Ending)
    → Lives o t (legal_by o.order (registered r.scripts)) streams ending
    → LivesByNames o t (legal_by o.order (registered r.scripts)) streams ending)
