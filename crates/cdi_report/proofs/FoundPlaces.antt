-- What the places of all items have, the places that are found of them have, and so have the problems that are told there.
use Rattle.std.proofs.Common.{Bool, true, false, List, [], ◌∷◌, ◌++◌, Some, IfSome, fold, map, if◌then◌else◌, sym, subst}
use Rattle.std.specs.List.{AllByRecursion, list_any}
use Rattle.cdi_base.specs.declared.place.Place.{Place}
use Rattle.cdi_problems.specs.Elements.{Element}
use Rattle.cdi_problems.specs.Findings.{ArePlacesWhere, Placed, placed_after}
use Rattle.cdi_problems.specs.Places.{same_place, with_place}
use Rattle.cdi_problems.specs.Words.{problems_at}
use Rattle.cdi_problems.specs.declared.problem.Problem.{Problem}
use Rattle.cdi_problems.specs.declared.problem.ProblemKind.{ProblemKind}
use Rattle.cdi_types.specs.ListsThose.{ListsThose}
use Rattle.cdi_report.proofs.Having.{Having, each_made}
use Rattle.cdi_report.proofs.Each.{each_append}

-- ---- of all items those that are listed

each_listed : {X : Type 0} {P : X → Type 0} (Q : X → Type 0) {items those : List X} → ListsThose P items those
    → AllByRecursion Q items → AllByRecursion Q those
each_listed Q ListsThose.none all = tt
each_listed Q (ListsThose.keep p rest) all = (all.0, each_listed Q rest all.1)
each_listed Q (ListsThose.skip out rest) all = each_listed Q rest all.1

-- an element with those before it
pub each_placed : (Q : Element → Type 0) (before elements : List Element) → AllByRecursion Q elements
    → AllByRecursion (λ (p : Placed). Q p.element) (placed_after before elements)
each_placed Q before [] all = tt
each_placed Q before (e ∷ es) all = (all.0, each_placed Q (before ++ e ∷ []) es all.1)

module _ (Q : Place → Type 0) where
  -- ---- of all places each once

  with_one : (listed : List Place) (place : Place) → AllByRecursion Q listed → Q place → AllByRecursion Q (with_place listed place)
  with_one listed place all has = by (list_any (λ other. same_place other place) listed)
    where
      by : (b : Bool) → AllByRecursion Q (if b then listed else listed ++ place ∷ [])
      by true = all
      by false = each_append Q listed (place ∷ []) all (has, tt)

  with_each : (listed places : List Place) → AllByRecursion Q listed → AllByRecursion Q places
      → AllByRecursion Q (fold with_place listed places)
  with_each listed [] all more = all
  with_each listed (p ∷ ps) all more = with_each (with_place listed p) ps (with_one listed p all more.0) more.1

  -- ---- problems

  -- a problem that has a place has one of these
  abbrev pub IsAt : Problem → Type 0
  IsAt p = IfSome p.place Q

  pub each_problem : (kind : ProblemKind) (found : List Place) → AllByRecursion Q found → AllByRecursion IsAt (problems_at kind found)
  each_problem kind found all = each_made IsAt Q (λ p. record { kind = kind; place = Some p }) (λ p has. has) found all

  module _ {X : Type 0} {P : X → Type 0} {place : X → Place} {items : List X} {found : List Place} where
    pub each_found : ArePlacesWhere P place items found → AllByRecursion (λ (x : X). Q (place x)) items → AllByRecursion Q found
    each_found w all =
        let those : AllByRecursion (λ (x : X). Q (place x)) w.those = each_listed (λ (x : X). Q (place x)) w.listed all in
        let places : AllByRecursion Q (map place w.those) = each_made Q (λ (x : X). Q (place x)) place (λ x has. has) w.those those in
        subst (AllByRecursion Q) (sym w.are) (with_each [] (map place w.those) tt places)

    -- the problems of a kind at the places that are found
    abbrev pub problems_found : (kind : ProblemKind) → ArePlacesWhere P place items found
        → AllByRecursion (λ (x : X). Q (place x)) items → Having IsAt
    problems_found kind w all = record { items = problems_at kind found; each = each_problem kind found (each_found w all) }
