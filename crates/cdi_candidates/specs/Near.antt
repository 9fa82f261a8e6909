-- The beans that nearly have a type and qualifiers (Jakarta CDI 4.0, Typesafe resolution, Enabled and disabled beans).
use Rattle.std.specs.Prelude.{ℕ, ◌==◌, ◌&&◌, Bool, true, false, not, List, [], ◌∷◌, map, filter, Option, Some, None, if◌then◌else◌}
use Rattle.std.specs.List.{flat_map, list_any, enumerate_from}
use Rattle.cdi_beans.specs.declared.bean.Bean.{Bean}
use Rattle.cdi_candidates.specs.Candidates.{place_of}
use Rattle.cdi_candidates.specs.declared.near.Lack.{Lack}
use Rattle.cdi_candidates.specs.declared.near.Lack.TheVariants as lacks
use Rattle.cdi_candidates.specs.declared.near.NearBean.{NearBean}
use Rattle.cdi_enable.specs.Enablement.{is_selected}
use Rattle.cdi_quals.specs.Qualifiers.{has, has_all}
use Rattle.cdi_quals.specs.declared.qualifier.Qualifier.{Qualifier}
use Rattle.cdi_resolve.specs.Filters.{Candidates, enabled_of, has_type, is_enabled, required}
use Rattle.cdi_resolve.specs.Resolution.{eligible}

-- the names of the required qualifiers that a bean lacks
abbrev pub lacked : List Qualifier → Bean → List ℕ
lacked required b = map (λ q. q.name) (filter (λ q. not (has b.qualifiers q)) required)

abbrev pub is_listed : List ℕ → ℕ → Bool
is_listed selected class = list_any (λ c. c == class) selected

-- why a bean isn't enabled: it is an alternative that isn't selected, or else it is specialized
abbrev pub why_disabled : List ℕ → Bean → Lack
why_disabled selected b =
    if b.alternative && not (is_selected selected b) then lacks.NotSelected else lacks.Specialized

abbrev pub some_lacked : List ℕ → Option Lack
some_lacked [] = None
some_lacked (name ∷ names) = Some (lacks.Qualifiers (name ∷ names))

-- an enabled bean lacks some of the qualifiers
abbrev pub lack_of_enabled : List Qualifier → Bean → Option Lack
lack_of_enabled required b = some_lacked (lacked required b)

-- one that isn't enabled has them all
abbrev pub lack_of_disabled : List ℕ → List Qualifier → Bean → Option Lack
lack_of_disabled selected required b =
    if has_all b.qualifiers required then Some (why_disabled selected b) else None

abbrev pub lack_of : List ℕ → List Qualifier → Bool → Bean → Option Lack
lack_of selected required true b = lack_of_enabled required b
lack_of selected required false b = lack_of_disabled selected required b

abbrev pub with_lack : Bean → Option Lack → List NearBean
with_lack b None = []
with_lack b (Some lack) = record { place = place_of b; lack = lack } ∷ []

-- a bean of the type with what it lacks, if it is near
abbrev pub near_bean : List ℕ → ℕ → List Qualifier → Bool → Bean → List NearBean
near_bean selected type required enabled b =
    if has_type type b then with_lack b (lack_of selected required enabled b) else []

-- those of some beans, of which the flags tell the enabled ones
abbrev pub near_in : List ℕ → ℕ → List Qualifier → List Bean → List Bool → List NearBean
near_in selected type required beans flags =
    flat_map (λ b. near_bean selected type required (is_enabled flags b.0) b.1)
    (enumerate_from 0 beans)

abbrev pub if_none : List (ℕ × Bean) → List NearBean → List NearBean
if_none [] near = near
if_none (b ∷ beans) near = []

-- the beans that nearly have a type and qualifiers, if no enabled bean has them
abbrev pub near_beans : List ℕ → ℕ → List Qualifier → Candidates → List NearBean
near_beans selected type qualifiers c =
    if_none (eligible type qualifiers (enabled_of c))
    (near_in selected type (required qualifiers) c.beans c.flags)
