-- The beans that nearly have what a point asks for, in words.
use Rattle.std.specs.Prelude.{ℕ, ◌-◌, List, [], ◌++◌, codes, decimal, length, min, take, nat_eq, Option, Some, None, if◌then◌else◌}
use Rattle.std.specs.List.{flat_map}
use Rattle.cdi_bean_check.specs.Qualifiers.{full_uses}
use Rattle.cdi_candidates.specs.Near.{near_beans}
use Rattle.cdi_candidates.specs.declared.near.Lack.{Lack}
use Rattle.cdi_candidates.specs.declared.near.Lack.TheVariants as lacks
use Rattle.cdi_candidates.specs.declared.near.NearBean.{NearBean}
use Rattle.cdi_deployment.specs.declared.deployment.Deployment.{Deployment}
use Rattle.cdi_deployment.specs.declared.deployment.Point.{Point}
use Rattle.cdi_problem_hints.specs.Asked.{points_of}
use Rattle.cdi_problem_hints.specs.Points.{point_text}
use Rattle.cdi_problems.specs.Elements.{Element}
use Rattle.cdi_problems.specs.Places.{name_text, place_text}
use Rattle.cdi_resolve.specs.declared.bean_tables.BeanTables.{BeanTables}

abbrev pub lacked_names : List (List ℕ) → List ℕ → List ℕ
lacked_names names lacked = flat_map (λ name. codes " @" ++ name_text names name) lacked

abbrev pub lacked_text : List (List ℕ) → List ℕ → List ℕ
lacked_text names lacked = codes "without" ++ lacked_names names lacked

-- what keeps a bean from being what is asked for
abbrev pub lack_text : List (List ℕ) → Lack → List ℕ
lack_text names (lacks.Qualifiers lacked) = lacked_text names lacked
lack_text names lacks.NotSelected = codes "an alternative that isn't selected"
lack_text names lacks.Specialized = codes "whose class another bean specializes"

abbrev pub near_sentence : List (List ℕ) → NearBean → List ℕ
near_sentence names near =
    codes "; near is " ++ (place_text names near.place
    ++ (codes ", " ++ lack_text names near.lack))

abbrev pub near_sentences : List (List ℕ) → List NearBean → List ℕ
near_sentences names near = flat_map (near_sentence names) near

-- so many more aren't told
abbrev pub rest_text : ℕ → List ℕ
rest_text count =
    if nat_eq count 0 then [] else codes "; and " ++ (decimal count ++ codes " more are near")

-- how many are told: 5 at most
abbrev pub told : List NearBean → ℕ
told near = min (length near) 5

abbrev pub near_text : List (List ℕ) → List NearBean → List ℕ
near_text names near =
    near_sentences names (take (told near) near) ++ rest_text (length near - told near)

-- the beans that are near to what a point asks for, by the tables of the deployment, if there are any
abbrev pub near_to : Deployment → Option BeanTables → Point → List ℕ
near_to d None p = []
near_to d (Some t) p =
    near_text d.names
    (near_beans d.selected p.ty (full_uses t.declared.qualifiers p.quals) t.resolver)

-- what a point asks for, and what is near to that
abbrev pub unsatisfied_text : Deployment → Option BeanTables → Point → List ℕ
unsatisfied_text d tables p = point_text d.names p.ty p.quals ++ near_to d tables p

abbrev pub unsatisfied_texts : Deployment → Option BeanTables → List Point → List ℕ
unsatisfied_texts d tables points = flat_map (unsatisfied_text d tables) points

abbrev pub unsatisfied_in : Deployment → Option BeanTables → Element → List ℕ
unsatisfied_in d tables e = unsatisfied_texts d tables (points_of e)
