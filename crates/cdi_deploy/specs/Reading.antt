-- Bytes to the deployment that they are, or to their first fault.
use Rattle.std.specs.Prelude.{ℕ, Bool, not, ◌&&◌, List, length, Option, Some, None, Result, Ok, Err, nat_lt, if◌then◌else◌}
use Rattle.std.specs.Str.{is_utf8}
use Rattle.cdi_base.specs.BuiltIn.{built_in_names}
use Rattle.cdi_base.specs.Reading.{◌>>=◌}
use Rattle.cdi_form.specs.declared.form.Kind.TheVariants as kinds
use Rattle.cdi_form.specs.declared.form.Part.{Part}
use Rattle.cdi_form.specs.declared.form.Part.TheVariants as parts
use Rattle.cdi_form.specs.Names.{names_fit}
use Rattle.cdi_form.specs.Numbers.{numbers_fit}
use Rattle.cdi_form.specs.Shape.{wrong}
use Rattle.cdi_form.specs.Json.{json_in}
use Rattle.serde_json.specs.Data.{Data}
use Rattle.cdi_deploy.specs.declared.fault.ReadFault.{ReadFault}
use Rattle.cdi_deploy.specs.declared.fault.ReadFault.TheVariants as faults
use Rattle.cdi_deployment.specs.declared.deployment.Deployment.{Deployment}
use Rattle.cdi_deploy.specs.Items.{lists_in}
use Rattle.cdi_deployment.specs.Limits.{is_within}
use Rattle.cdi_deploy.specs.Naming.{Table, names_added}

abbrev pub or_not_json : Option Data → Result Data ReadFault
or_not_json None = Err faults.NotJson
or_not_json (Some d) = Ok d

-- what stands at the root
abbrev pub root : Part
root = parts.Object kinds.Deployment

-- a wrong place is a fault, and without one the reading goes on
abbrev pub or_shape : Option (List ℕ) → Result Deployment ReadFault → Result Deployment ReadFault
or_shape None next = next
or_shape (Some path) next = Err (faults.Shape path)

-- the table of the names of a value: it begins with the built-in names
abbrev pub table_of : Data → Table
table_of d = names_added built_in_names d root

-- the lists of a value of the right form
unfoldable pub lists_of : Data → Result Deployment ReadFault
lists_of d = table_of d >>= λ names. Ok (lists_in names d)

abbrev pub within_limits : Deployment → Result Deployment ReadFault
within_limits d = if is_within d then Ok d else Err faults.TooMany

-- the deployment that a JSON value is, or its first fault
unfoldable pub deployment_of : Data → Result Deployment ReadFault
deployment_of d =
    if not (numbers_fit d) then Err faults.BadNumber
    else or_shape (wrong d root)
    (if not (names_fit d root) then Err faults.BadName
    else lists_of d >>= within_limits)

-- more than 1,048,576 bytes
abbrev pub is_too_long : List ℕ → Bool
is_too_long bytes = nat_lt 1048576 (length bytes)

-- not so many, but no text
abbrev pub is_no_text : List ℕ → Bool
is_no_text bytes = not (is_too_long bytes) && not (is_utf8 bytes)

-- the deployment that bytes are, or their first fault: too many are not looked at
unfoldable pub deployment_in : List ℕ → Result Deployment ReadFault
deployment_in bytes =
    if is_too_long bytes then Err faults.TooLong
    else or_not_json (json_in bytes) >>= deployment_of
