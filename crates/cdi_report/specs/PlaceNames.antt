-- The places of the problems of a deployment that was read are told by names.
use Rattle.std.specs.Prelude.{ℕ, List, All, IfOk, IfSome, IsTrue}
use Rattle.cdi_base.specs.Name.{is_name}
use Rattle.cdi_base.specs.declared.place.Place.{Place}
use Rattle.cdi_base.specs.declared.place.Place.TheVariants as places
use Rattle.cdi_prepare.specs.Ready.{readied_in}
use Rattle.cdi_prepare.specs.Scripts.{registered}
use Rattle.cdi_problems.specs.Places.{name_text}
use Rattle.cdi_problems.specs.declared.problem.Problem.{Problem}
use Rattle.cdi_report.specs.Reports.{AreProblemsWith}

-- its text in a table of names is a name, and so never empty
abbrev pub HasName : List (List ℕ) → ℕ → Type 0
HasName names name = IsTrue (is_name (name_text names name))

-- that holds of each name by which a place is told
abbrev pub HasNames : List (List ℕ) → Place → Type 0
HasNames names (places.Class name) = HasName names name
HasNames names (places.Member class member) = HasName names class × HasName names member
HasNames names (places.Constructor class) = HasName names class
HasNames names (places.Interceptor interceptor method) = HasName names interceptor

-- and so of the place of each problem that has one
abbrev pub PlacesHaveNames : Type 0
PlacesHaveNames =
    (bytes : List ℕ) → IfOk (readied_in bytes) (λ r.
    (problems : List Problem) → AreProblemsWith (registered r.scripts) r.deployment problems
    → All (λ p. IfSome p.place (HasNames r.deployment.names)) problems)
