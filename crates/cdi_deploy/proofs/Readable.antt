-- What is read is readable, is within its limits and knows its names, and what is readable is read.
use Rattle.std.proofs.Common.{◌≡◌, ◌∙◌, ℕ, ◌≤◌, Bool, true, false, not, List, length, Option, Some, None, Result, Ok, Err, IfOk, IsOk, if◌then◌else◌, refl, sym, ap, subst, arith}
use Rattle.std.specs.Result.{is_ok}
use Rattle.cdi_base.specs.BuiltIn.{built_in_names}
use Rattle.cdi_base.specs.Reading.{◌>>=◌}
use Rattle.cdi_form.specs.Names.{names_fit}
use Rattle.cdi_form.specs.Numbers.{numbers_fit}
use Rattle.cdi_form.specs.Shape.{wrong}
use Rattle.cdi_form.proofs.Forms.{form-of, nothing_wrong}
use Rattle.cdi_form.proofs.NamePlaces.{is_name-of_fitting, names_fit-of}
use Rattle.cdi_form.specs.Json.{json_in}
use Rattle.serde_json.specs.Data.{Data}
use Rattle.cdi_deploy.specs.declared.fault.ReadFault.{ReadFault}
use Rattle.cdi_deployment.specs.declared.deployment.Deployment.{Deployment}
use Rattle.cdi_deploy.specs.Items.{lists_in}
use Rattle.cdi_deployment.specs.KnownNames.{KnowsNames}
use Rattle.cdi_deployment.specs.Limits.{is_within}
use Rattle.cdi_deploy.specs.Naming.{Table}
use Rattle.cdi_deploy.specs.Readable.{IsReadable}
use Rattle.cdi_deploy.specs.Reading.{or_not_json, root, or_shape, table_of, within_limits, lists_of, deployment_of, is_too_long, deployment_in}
use Rattle.cdi_deploy.proofs.Known.{lists-know}
use Rattle.cdi_deploy.proofs.Tables.{names-add}

few : (bytes : List ℕ) → is_too_long bytes ≡ false → length bytes ≤ 1048576
few bytes e = grind arith

short : (bytes : List ℕ) → length bytes ≤ 1048576 → is_too_long bytes ≡ false
short bytes h = grind arith

module _ (bytes : List ℕ) where
  -- the table, and what is within its limits
  tabled : (d : Data) → length bytes ≤ 1048576 → json_in bytes ≡ Some d → numbers_fit d ≡ true → wrong d root ≡ None → names_fit d root ≡ true
      → (r : Table) → table_of d ≡ r → is_ok ((r >>= λ names. Ok (lists_in names d)) >>= within_limits) ≡ true → IsReadable bytes
  tabled d are_few json numbers right fit (Err fault) is e = absurd cc
  tabled d are_few json numbers right fit (Ok names) is e = record {
    are_few = are_few;
    value = d;
    is_json = json;
    has_numbers = numbers;
    has_form = form-of d root right;
    has_names = λ s stands. is_name-of_fitting s root d stands fit;
    names = names;
    has_room = is;
    has_limits = by (is_within (lists_in names d)) e;
  }
    where
      by : (b : Bool) → is_ok (if b then Ok (lists_in names d) else Err ReadFault.TooMany) ≡ true → b ≡ true
      by true h = refl
      by false h = absurd cc

  valued : (d : Data) → length bytes ≤ 1048576 → json_in bytes ≡ Some d → is_ok (deployment_of d) ≡ true → IsReadable bytes
  unfolding deployment_of lists_of
  valued d are_few json e = by (numbers_fit d) refl (wrong d root) refl (names_fit d root) refl e
    where
      by : (numbers : Bool) → numbers_fit d ≡ numbers → (place : Option (List ℕ)) → wrong d root ≡ place → (names : Bool) → names_fit d root ≡ names
          → is_ok (if not numbers then Err ReadFault.BadNumber
          else or_shape place (if not names then Err ReadFault.BadName else (table_of d >>= λ n. Ok (lists_in n d)) >>= within_limits)) ≡ true
          → IsReadable bytes
      by true numbers None right true fit h = tabled d are_few json numbers right fit (table_of d) refl h
      by true numbers None right false fit h = absurd cc
      by true numbers (Some path) right names fit h = absurd cc
      by false numbers place right names fit h = absurd cc

  pub readable-of : IsOk (deployment_in bytes) → IsReadable bytes
  unfolding deployment_in
  readable-of e = by (is_too_long bytes) refl (json_in bytes) refl e
    where
      by : (long : Bool) → is_too_long bytes ≡ long → (o : Option Data) → json_in bytes ≡ o
          → is_ok (if long then Err ReadFault.TooLong else or_not_json o >>= deployment_of) ≡ true → IsReadable bytes
      by true long o json h = absurd cc
      by false long None json h = absurd cc
      by false long (Some d) json h = valued d (few bytes long) json h

  -- what a readable value is read as
  read-is : (r : IsReadable bytes) → deployment_in bytes ≡ Ok (lists_in r.names r.value)
  unfolding deployment_in deployment_of lists_of
  read-is r =
      let long : is_too_long bytes ≡ false = short bytes r.are_few in
      let right : wrong r.value root ≡ None = nothing_wrong root r.value r.has_form in
      let fit : names_fit r.value root ≡ true = names_fit-of r.value root r.has_names in
      rw (long, r.is_json, r.has_numbers, right, fit, r.has_room, r.has_limits) refl

  pub read-of : IsReadable bytes → IsOk (deployment_in bytes)
  read-of r = ap is_ok (read-is r)

  knows : (r : IsReadable bytes) → KnowsNames (lists_in r.names r.value)
  knows r =
      let right : wrong r.value root ≡ None = nothing_wrong root r.value r.has_form in
      let adds = names-add r.value root built_in_names r.names r.has_room in
      lists-know r.names r.value (record { right = right; known = λ s stands. adds.knows s stands (r.has_names s stands) })

  if-ok : (read : Result Deployment ReadFault) → deployment_in bytes ≡ read → IfOk read KnowsNames
  if-ok (Err fault) e = tt
  if-ok (Ok d) e =
      let r : IsReadable bytes = readable-of (ap is_ok e) in
      let same : lists_in r.names r.value ≡ d = let is = read-is r in cc in
      subst KnowsNames same (knows r)

  if-ok-within : (read : Result Deployment ReadFault) → deployment_in bytes ≡ read → IfOk read (λ d. is_within d ≡ true)
  if-ok-within (Err fault) e = tt
  if-ok-within (Ok d) e =
      let r : IsReadable bytes = readable-of (ap is_ok e) in
      let same : lists_in r.names r.value ≡ d = let is = read-is r in cc in
      ap is_within (sym same) ∙ r.has_limits

  pub read-within : IfOk (deployment_in bytes) (λ d. is_within d ≡ true)
  read-within = if-ok-within (deployment_in bytes) refl

  pub read-knows : IfOk (deployment_in bytes) KnowsNames
  read-knows = if-ok (deployment_in bytes) refl
