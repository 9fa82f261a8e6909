-- The names of the classes of events.
use Rattle.std.proofs.Common.{ℕ, ◌≡◌, ◌∙◌, ◌==◌, ◌&&◌, ◌||◌, Bool, true, false, cond, nat_eq, List, [], ◌∷◌, Some, refl, ap}
use Rattle.std.specs.List.{list_any}
use Rattle.std.proofs.lemmas.Bool.{eqb-true}
use Rattle.cdi_deployment.specs.declared.deployment.Class.{Class}
use Rattle.cdi_event_tables.specs.Events.{is_event_class}
use Rattle.cdi_body_check.specs.WrittenNames.{is_concrete}
use Rattle.cdi_types.specs.Line.{class_named}

-- one of these classes has the name, and that is one of a class of events
abbrev pub takes : List Class → Class → ℕ → Bool
takes all c name = (c.name == name) && is_event_class all c.name

abbrev pub is_named_among : List Class → List Class → ℕ → Bool
is_named_among all some name = list_any (λ c. takes all c name) some

module _ (test : ℕ → Bool) (name : ℕ) where
  -- a test of a name passes for one of these if one has the name, and that passes
  one_test : (c : Class) (b : Bool) → nat_eq c.name name ≡ b → (b && test c.name) ≡ (b && test name)
  one_test c true e = ap test (eqb-true c.name name e)
  one_test c false e = refl

  shared : (b p rest : Bool) → ((b && p) || (rest && p)) ≡ ((b || rest) && p)
  shared true true rest = refl
  shared true false true = refl
  shared true false false = refl
  shared false p rest = refl

  any_named : (cs : List Class) → list_any (λ c. (c.name == name) && test c.name) cs ≡ (list_any (λ c. c.name == name) cs && test name)
  any_named [] = refl
  any_named (c ∷ cs) =
      ap (λ b. b || list_any (λ c. (c.name == name) && test c.name) cs) (one_test c (nat_eq c.name name) refl)
      ∙ ap (λ b. ((c.name == name) && test name) || b) (any_named cs)
      ∙ shared (nat_eq c.name name) (test name) (list_any (λ c. c.name == name) cs)

-- where no class has the name, there is none
none_concrete : (cs : List Class) (name : ℕ) → (list_any (λ c. c.name == name) cs && is_concrete (class_named cs name)) ≡ is_concrete (class_named cs name)
none_concrete [] name = refl
none_concrete (c ∷ cs) name = by (none_concrete cs name) (nat_eq c.name name)
  where
    by : (list_any (λ c. c.name == name) cs && is_concrete (class_named cs name)) ≡ is_concrete (class_named cs name) → (b : Bool)
        → ((b || list_any (λ c. c.name == name) cs) && is_concrete (cond b (Some c) (class_named cs name))) ≡ is_concrete (cond b (Some c) (class_named cs name))
    by more true = refl
    by more false = more

-- all classes have the names of the classes of events
pub all_named : (all : List Class) (name : ℕ) → is_named_among all all name ≡ is_event_class all name
all_named all name = any_named (is_event_class all) name all ∙ none_concrete all name
