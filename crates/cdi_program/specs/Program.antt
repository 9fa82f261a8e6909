-- The program: from the words of the command line to the exit status.
use Rattle.std.specs.Prelude.{◌≡◌, ℕ, Bool, true, false, List, bytes_eq, codes, map, string_bytes, Option, Some, None, Result, Ok, Err, OnOk, IsTrue}
use Rattle.std.specs.Borrow.{Bor}
use Rattle.std.specs.Io.KnownBytes.{Keeps}
use Rattle.clap.specs.Words.{IsAmong, Text}
use Rattle.clap.specs.declared.error.kind.ErrorKind.{ErrorKind}
use Rattle.cdi_lines.specs.declared.sink.WriteFailed.{WriteFailed}
use Rattle.cdi_lines.specs.declared.fault.ServeFault.{ServeFault}
use Rattle.cdi_lines.specs.declared.fault.ServeFault.TheVariants as faults
use Rattle.cdi_lines.specs.Served.{Blames}
use Rattle.cdi_options.specs.Options.{AsksFor, faults_in}
use Rattle.cdi_options.specs.declared.options.Mode.{Mode}
use Rattle.cdi_options.specs.declared.options.Mode.TheVariants as modes
use Rattle.cdi_options.specs.declared.options.Options.{Options}
use Rattle.cdi_report.specs.Reports.{ReportsOn}
use Rattle.cdi_report.specs.Verdicts.{outcome_of as outcome_of_verdict, status_of as status_of_verdict}
use Rattle.cdi_report.specs.declared.verdict.Verdict.{Verdict}
use Rattle.cdi_base.specs.declared.settings.Settings.{Settings}
use Rattle.cdi_shell.specs.Endings.{outcome_of, status_of as status_of_ending}
use Rattle.cdi_shell.specs.Laws.{DrivesOnce}
use Rattle.cdi_shell.specs.declared.ending.Ending.{Ending}
use Rattle.cdi_prepare.specs.Ready.{readied_in}
use Rattle.cdi_program.specs.Drawings.{IsDrawing}
use Rattle.cdi_findings.specs.Findings.{AreFindings, Found}
use Rattle.cdi_program.specs.Lines.{cause_line}
use Rattle.cdi_program.specs.Statuses.{is_shown, status_of, status_of_findings}
use Rattle.cdi_program.specs.Streams.{Ends, Input, IsUnread, IsUntouched, Output}
use Rattle.cdi_program.specs.Taken.{Takes}
use Rattle.cdi_program.specs.Telling.{IsLeft, Passes, PassesOn, TellsEnding, TellsFault, TellsOfFile, TellsVerdict, Warns, WarnsAndTells}
use Rattle.cdi_program.specs.WordAnswers.{IsAnswerOn}
use Rattle.cdi_program.specs.declared.drawing.Drawing.{Drawing}
use Rattle.cdi_program.specs.declared.explaining.WordAnswer.{WordAnswer}
use Rattle.cdi_program.specs.declared.explaining.WordAnswer.TheVariants as word_answers
use Rattle.cdi_program.specs.declared.words.WordsError.{WordsError}
use Rattle.cdi_program.specs.declared.words.WordsError.TheVariants as words_errors

-- the exit status where the words are not known
abbrev pub status_without_words : WordsError → ℕ
status_without_words words_errors.NotText = 2
status_without_words words_errors.Memory = 3

-- and why they are not
abbrev pub words_error_text : WordsError → List ℕ
words_error_text words_errors.NotText = codes "a word of the command line is not UTF-8"
words_error_text words_errors.Memory = codes "out of memory"

-- a word isn't UTF-8 exactly if this holds; else memory ran out
abbrev pub IsWhy : Type 0 → WordsError → Type 0
IsWhy is_no_text error =
    (is_no_text → error ≡ words_errors.NotText) × ((is_no_text → ⊥) → error ≡ words_errors.Memory)

-- 0 where all was written that was asked for
abbrev pub status_of_showing : {T E : Type 0} → Result T E → ℕ
status_of_showing (Ok _) = 0
status_of_showing (Err _) = 3

-- it is told if it could not be written
abbrev pub TellsShowing : {T E : Type 0} → Result T E → Output → Output → Type 0
TellsShowing (Ok _) old new = new ≡ old
TellsShowing (Err _) old new = TellsFault faults.Write old new

-- A text that is asked for is written, or it is told that it could not be. Nothing is read.
pub record Shows (text : List ℕ) (ends : Ends) (status : ℕ) : Type 0 where
  pub result : Result (Unit {0}) WriteFailed
  pub passes : Passes text result ends.output ends.output_after
  pub tells : TellsShowing result ends.errors ends.errors_after
  pub is_unread : IsUnread ends
  pub is_status : status ≡ status_of_showing result

-- This text is written, help or the version; or it tells what is wrong with the words, and so does the status.
pub data AnswersWith (kind : ErrorKind) (text : List ℕ) (ends : Ends) (status : ℕ) : Type 0 where
  shows : is_shown kind ≡ true → Shows text ends status → AnswersWith kind text ends status
  mistaken : is_shown kind ≡ false → PassesOn text ends.errors ends.errors_after
      → IsUntouched ends → status ≡ status_of kind → AnswersWith kind text ends status

-- the same with some text; or memory ran out
pub data AnswersUsage (kind : ErrorKind) (ends : Ends) (status : ℕ) : Type 0 where
  answers : (text : List ℕ) → AnswersWith kind text ends status → AnswersUsage kind ends status
  starves : IsUntouched ends → TellsFault faults.Memory ends.errors ends.errors_after
      → status ≡ 3 → AnswersUsage kind ends status

-- These bytes of a deployment are run with these settings, and the status is that of the run's ending.
pub record RunsBytes (settings : Settings) (file bytes : List ℕ) (ends : Ends) (status : ℕ)
    : Type 0 where
  pub ending : Ending
  pub output : Output
  pub drives : DrivesOnce settings bytes
      (record {
        unread = ends.input.unread;
        unread_after = ends.input_after.unread;
        held = ends.output.held;
        held_after = output.held;
      })
      ends.input.has_failed ends.input_after.has_failed
      ends.output.has_failed output.has_failed output.is_passed_on ending
  pub is_left : IsLeft (outcome_of ending) output ends.output_after
  pub tells : TellsEnding file bytes ending ends.errors ends.errors_after
  pub is_status : status ≡ status_of_ending ending

-- These bytes of a deployment are reported on, and the status is that of the verdict. Nothing is read.
pub record ChecksBytes (file bytes : List ℕ) (ends : Ends) (status : ℕ) : Type 0 where
  pub verdict : Verdict
  pub output : Output
  pub reports : ReportsOn bytes ends.output.held output.held verdict
  pub blames : Blames (outcome_of_verdict verdict)
      ends.input.has_failed ends.input_after.has_failed ends.output.has_failed output.has_failed
  pub passed_on : OnOk (outcome_of_verdict verdict) (IsTrue output.is_passed_on)
  pub is_unread : IsUnread ends
  pub is_left : IsLeft (outcome_of_verdict verdict) output ends.output_after
  pub tells : TellsVerdict file bytes verdict ends.errors ends.errors_after
  pub is_status : status ≡ status_of_verdict verdict

-- These bytes of a deployment are checked, and what is wrong is written as lines of JSON; or memory ran out.
pub data ChecksAsJson (bytes : List ℕ) (ends : Ends) (status : ℕ) : Type 0 where
  writes : (found : Found) → AreFindings bytes (readied_in bytes) found
      → (shown : ℕ) → Shows found.lines ends shown
      → status ≡ status_of_findings found.is_refused shown → ChecksAsJson bytes ends status
  starves : IsUntouched ends → TellsFault faults.Memory ends.errors ends.errors_after
      → status ≡ 3 → ChecksAsJson bytes ends status

abbrev pub ChecksBy : Bool → List ℕ → List ℕ → Ends → ℕ → Type 0
ChecksBy true file bytes ends status = ChecksAsJson bytes ends status
ChecksBy false file bytes ends status = ChecksBytes file bytes ends status

-- of a deployment that was drawn the warning is told, and what is wrong with it if it is refused
abbrev pub TellsDrawn : Bool → List ℕ → List ℕ → Output → Output → Type 0
TellsDrawn true file bytes old new = WarnsAndTells file bytes old new
TellsDrawn false file bytes old new = Warns file bytes old new

-- The drawing of a deployment is written, or it is told that it could not be; and then what there is to say. Nothing is read.
pub record DrawsOne (file bytes : List ℕ) (drawing : Drawing) (ends : Ends) (status : ℕ)
    : Type 0 where
  pub shown : ℕ
  pub between : Output
  pub shows : Shows (string_bytes drawing.text) (record ends { errors_after = between }) shown
  pub tells : TellsDrawn drawing.is_refused file bytes between ends.errors_after
  pub is_status : status ≡ status_of_findings drawing.is_refused shown

-- nothing is written of bytes that can't be read
abbrev pub Draws : List ℕ → List ℕ → Option Drawing → Ends → ℕ → Type 0
Draws file bytes None ends status =
    WarnsAndTells file bytes ends.errors ends.errors_after × IsUntouched ends × (status ≡ 1)
Draws file bytes (Some drawing) ends status = DrawsOne file bytes drawing ends status

-- The deployment that these bytes are is drawn; or memory ran out.
pub data DrawsBytes (file bytes : List ℕ) (ends : Ends) (status : ℕ) : Type 0 where
  draws : (drawing : Option Drawing) → IsDrawing (readied_in bytes) drawing
      → Draws file bytes drawing ends status → DrawsBytes file bytes ends status
  starves : IsUntouched ends → TellsFault faults.Memory ends.errors ends.errors_after
      → status ≡ 3 → DrawsBytes file bytes ends status

-- the bytes of a deployment are checked, drawn or run
abbrev pub ServesBytesBy : Mode → Options → List ℕ → Ends → ℕ → Type 0
ServesBytesBy modes.Check o bytes ends status = ChecksBy o.writes_json o.file.now bytes ends status
ServesBytesBy modes.Graph o bytes ends status = DrawsBytes o.file.now bytes ends status
ServesBytesBy _ o bytes ends status = RunsBytes o.settings o.file.now bytes ends status

abbrev pub ServesBytes : Options → List ℕ → Ends → ℕ → Type 0
ServesBytes o bytes ends status = ServesBytesBy o.mode o bytes ends status

-- A file is checked, drawn or run: the deployment is in the bytes that come of its first 1,048,577, or it can't be read.
pub data ServesFile (gives : List ℕ → ℕ → List ℕ → Type 0) (unreadable : List ℕ → Type 0)
    (o : Options) (ends : Ends) (status : ℕ) : Type 0 where
  reads : (bytes : List ℕ) → gives o.file.now 1048577 bytes
      → ServesBytes o bytes ends status → ServesFile gives unreadable o ends status
  fails : unreadable o.file.now → IsUntouched ends
      → TellsOfFile o.file.now None ends.errors ends.errors_after → status ≡ 3
      → ServesFile gives unreadable o ends status

-- `-` names the input in the place of a file, but not for a run
abbrev pub is_input_by : Mode → List ℕ → Bool
is_input_by modes.Check file = bytes_eq file (codes "-")
is_input_by modes.Graph file = bytes_eq file (codes "-")
is_input_by _ file = false

abbrev pub is_input : Options → Bool
is_input o = is_input_by o.mode o.file.now

-- Taking the front of the input, up to 1,048,577 bytes, came to this. The output keeps what was written, and is asked to pass it on.
pub record TakesInput (result : Result (List ℕ) ServeFault) (input input_after : Input)
    (output output_after : Output) : Type 0 where
  pub takes : Takes 1048577 result input.unread input_after.unread
  pub kept : Keeps output.held output_after.held
  pub blames : Blames result input.has_failed input_after.has_failed
      output.has_failed output_after.has_failed
  pub passed_on : OnOk result (IsTrue output_after.is_passed_on)

-- The input is checked or drawn: the deployment is the front of what stood unread in it; or what failed in taking it is told.
pub data ServesInput (o : Options) (ends : Ends) (status : ℕ) : Type 0 where
  reads : (bytes : List ℕ) (input : Input) (output : Output)
      → TakesInput (Ok bytes) ends.input input ends.output output
      → ServesBytes o bytes (record ends { input = input; output = output }) status
      → ServesInput o ends status
  fails : (fault : ServeFault)
      → TakesInput (Err fault) ends.input ends.input_after ends.output ends.output_after
      → TellsFault fault ends.errors ends.errors_after → status ≡ 3 → ServesInput o ends status

abbrev pub ServesFrom : Bool → (List ℕ → ℕ → List ℕ → Type 0) → (List ℕ → Type 0) → Options → Ends
    → ℕ → Type 0
ServesFrom true gives unreadable o ends status = ServesInput o ends status
ServesFrom false gives unreadable o ends status = ServesFile gives unreadable o ends status

-- the deployment in the input or in a file is checked, drawn or run
abbrev pub ServesDeployment : (List ℕ → ℕ → List ℕ → Type 0) → (List ℕ → Type 0) → Options → Ends
    → ℕ → Type 0
ServesDeployment gives unreadable o ends status =
    ServesFrom (is_input o) gives unreadable o ends status

-- what is told of a word that is to be explained
abbrev pub Answers : List ℕ → WordAnswer → Ends → ℕ → Type 0
Answers word (word_answers.Known text) ends status = Shows (string_bytes text) ends status
Answers word (word_answers.Unknown line) ends status =
    PassesOn (string_bytes line) ends.errors ends.errors_after
    × IsUntouched ends × (status ≡ 2)

-- A word is explained, or it is told that it is none of the output; or memory ran out.
pub data Explains (word : List ℕ) (ends : Ends) (status : ℕ) : Type 0 where
  answers_word : (answer : WordAnswer) → IsAnswerOn word answer → Answers word answer ends status
      → Explains word ends status
  starves : IsUntouched ends → TellsFault faults.Memory ends.errors ends.errors_after
      → status ≡ 3 → Explains word ends status

abbrev pub ServesBy : (List ℕ → ℕ → List ℕ → Type 0) → (List ℕ → Type 0) → Mode → Options → Ends
    → ℕ → Type 0
ServesBy gives unreadable modes.Explain o ends status = Explains o.word.now ends status
ServesBy gives unreadable _ o ends status = ServesDeployment gives unreadable o ends status

-- what the words ask for is done
abbrev pub Serves : (List ℕ → ℕ → List ℕ → Type 0) → (List ℕ → Type 0) → Options → Ends → ℕ
    → Type 0
Serves gives unreadable o ends status = ServesBy gives unreadable o.mode o ends status

-- What words ask for is done, and others are answered by one of their kinds; or memory ran out. By turns of how many entries a run
-- goes decides nothing of it.
pub data RunsWords (gives : List ℕ → ℕ → List ℕ → Type 0) (unreadable : List ℕ → Type 0)
    (words : List Text) (ends : Ends) (status : ℕ) : Type 0 where
  serves : (options : Options) → AsksFor words options → Serves gives unreadable options ends status
      → RunsWords gives unreadable words ends status
  tells : (kind : ErrorKind) → IsAmong kind (faults_in words) → AnswersUsage kind ends status
      → RunsWords gives unreadable words ends status
  starves : IsUntouched ends → (text : List ℕ) → PassesOn text ends.errors ends.errors_after
      → status ≡ 3 → RunsWords gives unreadable words ends status

-- the words as texts, where they are known
abbrev pub texts_of : {S : Type 0} → (S → Text) → Result (Bor (List S)) WordsError
    → Result (List Text) WordsError
texts_of text (Ok words) = Ok (map text words.now)
texts_of text (Err error) = Err error

-- the words are not known: nothing is read or written, and why is told
pub record RunsWithoutWords (error : WordsError) (ends : Ends) (status : ℕ) : Type 0 where
  pub is_untouched : IsUntouched ends
  pub tells : PassesOn (cause_line (words_error_text error)) ends.errors ends.errors_after
  pub is_status : status ≡ status_without_words error

-- the program is run on what came of asking for its words
abbrev pub RunsProgram : (List ℕ → ℕ → List ℕ → Type 0) → (List ℕ → Type 0)
    → Result (List Text) WordsError → Ends → ℕ → Type 0
RunsProgram gives unreadable (Ok words) ends status = RunsWords gives unreadable words ends status
RunsProgram gives unreadable (Err error) ends status = RunsWithoutWords error ends status
