-- Which bytes are a deployment, said apart from the order in which their faults are looked for.
use Rattle.std.specs.Prelude.{◌≡◌, ℕ, List, Some, Ok, length, ◌≤◌, IsTrue}
use Rattle.cdi_base.specs.Name.{is_name}
use Rattle.cdi_form.specs.HasForm.{HasForm}
use Rattle.cdi_form.specs.NamePlaces.{StandsAsName}
use Rattle.cdi_form.specs.Numbers.{numbers_fit}
use Rattle.cdi_form.specs.Json.{json_in}
use Rattle.serde_json.specs.Data.{Data}
use Rattle.cdi_deploy.specs.Items.{lists_in}
use Rattle.cdi_deployment.specs.Limits.{is_within}
use Rattle.cdi_deploy.specs.Reading.{root, table_of}

pub record IsReadable (bytes : List ℕ) : Type 0 where
  -- there are not too many bytes, and they are JSON
  pub are_few : length bytes ≤ 1048576
  pub value : Data
  pub is_json : json_in bytes ≡ Some value
  -- each number is a whole number of 64 bits
  pub has_numbers : IsTrue (numbers_fit value)
  -- the value is of the form of a deployment
  pub has_form : HasForm root value
  -- each text in the place of a name is one
  pub has_names : (s : List ℕ) → StandsAsName s root value → IsTrue (is_name s)
  -- the table has room for them
  pub names : List (List ℕ)
  pub has_room : table_of value ≡ Ok names
  -- no list is longer than its limit
  pub has_limits : IsTrue (is_within (lists_in names value))
