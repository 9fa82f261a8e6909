-- What is wrong with a deployment, as lines of JSON.
use Rattle.std.specs.Fmt.{◌++?◌, debug_str}
use Rattle.std.specs.Prelude.{◌≡◌, ℕ, Bool, true, List, [], ◌∷◌, ◌++◌, codes, length, map, nat_lt, string_bytes, Option, Some, None, Result, Ok, Err, IfSome}
use Rattle.cdi_base.specs.declared.place.Place.{Place}
use Rattle.cdi_deployment.specs.declared.deployment.Deployment.{Deployment}
use Rattle.cdi_positions.specs.Position.{IsPositionIn}
use Rattle.cdi_positions.specs.declared.position.Position.{Position}
use Rattle.cdi_positions.specs.declared.repeated_keys.RepeatedKey.{RepeatedKey}
use Rattle.cdi_prepare.specs.Hint.{IsHintFor}
use Rattle.cdi_prepare.specs.HintText.{mistake_text}
use Rattle.cdi_prepare.specs.Ready.{Readied}
use Rattle.cdi_prepare.specs.Scripts.{registered}
use Rattle.cdi_prepare.specs.declared.hint.Hint.{Hint}
use Rattle.cdi_problem_hints.specs.Hints.{problem_message}
use Rattle.cdi_problem_hints.specs.Left.{problem_candidates}
use Rattle.cdi_problem_hints.specs.Subjects.{Subject}
use Rattle.cdi_problems.specs.Places.{place_text}
use Rattle.cdi_problems.specs.Words.{kind_text}
use Rattle.cdi_problems.specs.declared.problem.Problem.{Problem}
use Rattle.cdi_findings.specs.Faults.{fault_name, unhinted_text}
use Rattle.cdi_findings.specs.Finding.{Told, finding_line}
use Rattle.cdi_findings.specs.Tables.{AreTablesFor}
use Rattle.cdi_findings.specs.Warnings.{IsWarningFor}
use Rattle.cdi_findings.specs.declared.finding.FindingKind.TheVariants as finding_kinds
use Rattle.cdi_findings.specs.declared.findings.Findings.{Findings}
use Rattle.cdi_report.specs.Reports.{AreProblemsWith}
use Rattle.cdi_report.specs.Reviews.{names_of}
use Rattle.cdi_resolve.specs.declared.bean_tables.BeanTables.{BeanTables}
use Rattle.cdi_name_uses.specs.declared.step_name.ScriptNames.{ScriptNames}

-- a line for each finding, and whether there is more among them than a warning
pub record Found : Type 0 where
  pub lines : List ℕ
  pub is_refused : Bool

-- the findings of the code
abbrev pub found_by : Findings → Found
found_by f = record { lines = string_bytes f.lines; is_refused = f.is_refused }

abbrev pub place_words : List (List ℕ) → Option Place → List ℕ
place_words names None = []
place_words names (Some place) = place_text names place

-- the line that tells this problem, with this position
pub record IsLineOf (at : Option Position) (s : Subject) (p : Problem) (line : List ℕ)
    : Type 0 where
  pub told : Told
  pub kind : told.kind ≡ finding_kinds.Problem
  pub name : told.name ≡ kind_text p.kind
  pub place : told.place ≡ place_words s.deployment.names p.place
  pub position : told.position ≡ at
  pub message : told.message ≡ problem_message s p
  pub candidates : told.candidates ≡ map (place_text s.deployment.names) (problem_candidates s p)
  pub is : line ≡ finding_line told

-- it tells a position of the text if one is known
pub record IsProblemLine (bytes : List ℕ) (s : Subject) (p : Problem) (line : List ℕ) : Type 0 where
  pub position : Option Position
  pub is_in : IfSome position (IsPositionIn bytes)
  pub is_line : IsLineOf position s p line

-- the lines of problems, in their order
pub data AreProblemLines (bytes : List ℕ) (s : Subject) : List Problem → List ℕ → Type 0 where
  none : AreProblemLines bytes s [] []
  more : (problems : List Problem) (lines : List ℕ) (p : Problem) (line : List ℕ)
      → AreProblemLines bytes s problems lines → IsProblemLine bytes s p line
      → AreProblemLines bytes s (problems ++ p ∷ []) (lines ++ line)

-- those of a deployment whose scripts use these names, which is refused if there is one
pub record AreReviewFindings (bytes : List ℕ) (d : Deployment) (scripts : List ScriptNames)
    (problems : List Problem) (found : Found) : Type 0 where
  pub tables : Option BeanTables
  pub are_tables : AreTablesFor d problems tables
  pub are_lines :
      AreProblemLines bytes (record { deployment = d; scripts = scripts; tables = tables })
      problems found.lines
  pub is_refused : found.is_refused ≡ nat_lt 0 (length problems)

-- those of a deployment that was read, whose bodies are its scripts
pub record AreProblemFindings (bytes : List ℕ) (r : Readied) (found : Found) : Type 0 where
  pub problems : List Problem
  pub are : AreProblemsWith (registered r.scripts) r.deployment problems
  pub are_found : AreReviewFindings bytes r.deployment (names_of r.scripts) problems found

-- what a hint tells beside its position, or what is told of the fault with this name where there is none
abbrev pub message_of : List ℕ → Option Hint → Option (List ℕ)
message_of name None = Some (unhinted_text name)
message_of name (Some h) = mistake_text h.mistake

abbrev pub position_of : Option Hint → Option Position
position_of None = None
position_of (Some h) = h.position

-- the line that tells why bytes can't be read, by what they are read as and the hint for them
pub record IsFaultLine (bytes : List ℕ) (read : Result Readied (List ℕ)) (line : List ℕ)
    : Type 0 where
  pub hint : Option Hint
  pub is_hint : IsHintFor bytes hint
  pub told : Told
  pub kind : told.kind ≡ finding_kinds.Fault
  pub name : told.name ≡ fault_name read
  pub place : told.place ≡ []
  pub position : told.position ≡ position_of hint
  pub message : IfSome (message_of (fault_name read) hint) (λ text. told.message ≡ text)
  pub candidates : told.candidates ≡ []
  pub is : line ≡ finding_line told

-- they are refused
pub record AreFaultFindings (bytes : List ℕ) (read : Result Readied (List ℕ)) (found : Found)
    : Type 0 where
  pub is_line : IsFaultLine bytes read found.lines
  pub is_refused : found.is_refused ≡ true

-- of bytes that can't be read the line of their fault, of others those of their problems
abbrev pub AreWrongs : List ℕ → Result Readied (List ℕ) → Found → Type 0
AreWrongs bytes (Err line) found = AreFaultFindings bytes (Err line) found
AreWrongs bytes (Ok r) found = AreProblemFindings bytes r found

-- what is told of a key that stands twice: it is quoted with its escapes, and what is written is known where it is ASCII
abbrev pub repeated_message : RepeatedKey → Option (List ℕ)
repeated_message r =
    Some (codes "the key ") ++? debug_str r.key
    ++? Some (codes " stands twice in one object, and only its last value counts")

-- the line that warns of such a key
pub record IsRepeatedLine (r : RepeatedKey) (line : List ℕ) : Type 0 where
  pub told : Told
  pub kind : told.kind ≡ finding_kinds.Warning
  pub name : told.name ≡ codes "RepeatedKey"
  pub place : told.place ≡ []
  pub position : told.position ≡ Some r.position
  pub message : IfSome (repeated_message r) (λ text. told.message ≡ text)
  pub candidates : told.candidates ≡ []
  pub is : line ≡ finding_line told

abbrev pub IsLineOfWarning : Option RepeatedKey → List ℕ → Type 0
IsLineOfWarning None line = line ≡ []
IsLineOfWarning (Some r) line = IsRepeatedLine r line

-- the line of the warning for bytes, if there is one
pub record IsWarningLine (bytes line : List ℕ) : Type 0 where
  pub warning : Option RepeatedKey
  pub is_warning : IsWarningFor bytes warning
  pub is : IsLineOfWarning warning line

-- the warning, and then what is wrong, which alone decides whether the deployment is refused
pub record AreFindings (bytes : List ℕ) (read : Result Readied (List ℕ)) (found : Found)
    : Type 0 where
  pub warning : List ℕ
  pub is_warning : IsWarningLine bytes warning
  pub wrongs : Found
  pub are_wrongs : AreWrongs bytes read wrongs
  pub lines : found.lines ≡ warning ++ wrongs.lines
  pub is_refused : found.is_refused ≡ wrongs.is_refused
