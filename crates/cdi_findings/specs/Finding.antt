-- What is wrong with a deployment, as a line of JSON.
use Rattle.std.specs.Prelude.{ℕ, List, ◌++◌, codes, map, string_bytes, Option, Some, None}
use Rattle.cdi_findings.specs.declared.finding.Finding.{Finding}
use Rattle.cdi_findings.specs.declared.finding.FindingKind.{FindingKind}
use Rattle.cdi_findings.specs.declared.finding.FindingKind.TheVariants as kinds
use Rattle.cdi_positions.specs.declared.position.Position.{Position}
use Rattle.serde_json.specs.Data.{Data, array, no_members, null, number, object, put, string, unsigned}
use Rattle.serde_json.specs.View.{items_of}
use Rattle.serde_json.specs.Written.{compact_text}

-- what a finding says
pub record Told : Type 0 where
  pub kind : FindingKind
  pub name : List ℕ
  pub place : List ℕ
  pub position : Option Position
  pub message : List ℕ
  pub candidates : List (List ℕ)

-- what a finding of the code says
abbrev pub told_by : Finding → Told
told_by f =
    record {
      kind = f.kind;
      name = f.name.now;
      place = f.place.now;
      position = f.position;
      message = f.message.now;
      candidates = map string_bytes f.candidates.now;
    }

abbrev pub kind_text : FindingKind → List ℕ
kind_text kinds.Fault = codes "fault"
kind_text kinds.Problem = codes "problem"
kind_text kinds.Warning = codes "warning"

abbrev pub texts_data : List (List ℕ) → Data
texts_data texts = array (items_of (map string texts))

abbrev pub line_data : Option Position → Data
line_data None = null
line_data (Some position) = number (unsigned position.line)

abbrev pub column_data : Option Position → Data
column_data None = null
column_data (Some position) = number (unsigned position.column)

-- the object of a finding
abbrev pub finding_data : Told → Data
finding_data f =
    object
    (put (codes "candidates") (texts_data f.candidates)
    (put (codes "message") (string f.message)
    (put (codes "column") (column_data f.position)
    (put (codes "line") (line_data f.position)
    (put (codes "place") (string f.place)
    (put (codes "name") (string f.name)
    (put (codes "kind") (string (kind_text f.kind)) no_members)))))))

-- in compact form, with a line feed
abbrev pub finding_line : Told → List ℕ
finding_line f = compact_text (finding_data f) ++ codes "\n"
