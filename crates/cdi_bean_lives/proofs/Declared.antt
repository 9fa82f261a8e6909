-- What a class leaves of its direct superclass is the same by the class and by the names of its members, with bodies by their numbers.
use Rattle.std.proofs.Common.{ℕ, ◌≡◌, ◌∙◌, ◌||◌, Bool, true, false, not, cond, nat_eq, Option, List, [], ◌∷◌, ◌++◌, map, filter, refl, sym, ap}
use Rattle.std.proofs.lemmas.List.{map-append}
use Rattle.std.proofs.lemmas.List.Elements.{filter-append}
use Rattle.std.specs.List.{list_any}
use Rattle.cdi_base.specs.declared.place.Place.{Place}
use Rattle.cdi_base.specs.declared.place.Place.TheVariants as places
use Rattle.cdi_class_lives.specs.Inheriting as lives
use Rattle.cdi_deployment.specs.Member.{member_name}
use Rattle.cdi_deployment.specs.declared.deployment.Class.{Class}
use Rattle.cdi_deployment.specs.declared.deployment.Member.{Member}
use Rattle.cdi_method_maps.specs.NamedMethods.{is_among}
use Rattle.cdi_numbered_plans.specs.Machine.{does_something, machine_code}
use Rattle.cdi_numbered_plans.specs.Numbered.{step_by, steps_by}
use Rattle.cdi_numbered_plans.specs.declared.numbering.Numbering.{Numbering}
use Rattle.cdi_planner.specs.Inherited.{leaves_code, leaves_place, leaves_step}
use Rattle.cdi_plans.specs.declared.plan.Code.{Code}
use Rattle.cdi_plans.specs.declared.plan.Step.{Step}
use Rattle.cdi_plans.specs.declared.plan.Step.TheVariants as steps
use Rattle.cdi_types.specs.Members.{declares}

module _ (class : Class) where
  abbrev pub names : List ℕ
  names = map member_name class.members

  pub declared : (name : ℕ) → is_among name names ≡ declares name class
  declared name = by class.members
    where
      by : (ms : List Member) → is_among name (map member_name ms) ≡ list_any (λ m. nat_eq (member_name m) name) ms
      by [] = refl
      by (m ∷ ms) = ap (λ b. nat_eq (member_name m) name || b) (by ms)

  same_place : (p : Place) → lives.leaves_place names p ≡ leaves_place class p
  same_place (places.Member of name) = ap not (declared name)
  same_place p = refl

  -- ---- callbacks

  codes_left : (ids : ℕ → Option ℕ) (cs : List Code) → filter (lives.leaves_code names) (map (machine_code ids) cs) ≡ map (machine_code ids) (filter (leaves_code class) cs)
  codes_left ids [] = refl
  codes_left ids (c ∷ cs) =
      ap (λ b. cond b (machine_code ids c ∷ filter (lives.leaves_code names) (map (machine_code ids) cs)) (filter (lives.leaves_code names) (map (machine_code ids) cs))) (same_place c.place)
      ∙ by (codes_left ids cs) (leaves_place class c.place)
    where
      by : filter (lives.leaves_code names) (map (machine_code ids) cs) ≡ map (machine_code ids) (filter (leaves_code class) cs) → (b : Bool)
          → cond b (machine_code ids c ∷ filter (lives.leaves_code names) (map (machine_code ids) cs)) (filter (lives.leaves_code names) (map (machine_code ids) cs))
          ≡ map (machine_code ids) (cond b (c ∷ filter (leaves_code class) cs) (filter (leaves_code class) cs))
      by rest true = ap (λ all. machine_code ids c ∷ all) rest
      by rest false = rest

  -- a class has the callbacks that it leaves, and behind them its own
  pub codes_below : (ids : ℕ → Option ℕ) (above own all : List Code) → all ≡ filter (leaves_code class) above ++ own
      → filter (lives.leaves_code names) (map (machine_code ids) above) ++ map (machine_code ids) own ≡ map (machine_code ids) all
  codes_below ids above own all is =
      ap (λ cs. cs ++ map (machine_code ids) own) (codes_left ids above)
      ∙ sym (map-append (machine_code ids) (filter (leaves_code class) above) own)
      ∙ ap (map (machine_code ids)) (sym is)

  -- ---- steps

  module _ (n : Numbering) where
    steps_by-append : (xs ys : List Step) → steps_by n (xs ++ ys) ≡ steps_by n xs ++ steps_by n ys
    steps_by-append xs ys = ap (map (step_by n)) (filter-append does_something xs ys) ∙ map-append (step_by n) (filter does_something xs) (filter does_something ys)

    same_step : (s : Step) → lives.leaves_step names (step_by n s) ≡ leaves_step class s
    same_step (steps.Intercept place) = refl
    same_step (steps.Construct points lifecycle) = refl
    same_step (steps.Inject field point) = refl
    same_step (steps.Initialize code points) = same_place code.place
    same_step (steps.Complete lifecycle) = refl

    steps_left : (xs : List Step) → filter (lives.leaves_step names) (steps_by n xs) ≡ steps_by n (filter (leaves_step class) xs)
    steps_left [] = refl
    steps_left (x ∷ xs) = by (steps_left xs) (does_something x) refl (leaves_step class x) refl
      where
        left : List Step
        left = filter (leaves_step class) xs

        by : filter (lives.leaves_step names) (steps_by n xs) ≡ steps_by n left
            → (d : Bool) → does_something x ≡ d → (b : Bool) → leaves_step class x ≡ b
            → filter (lives.leaves_step names) (map (step_by n) (cond d (x ∷ filter does_something xs) (filter does_something xs)))
            ≡ map (step_by n) (filter does_something (cond b (x ∷ left) left))
        by rest true f true e =
            ap (λ b. cond b (step_by n x ∷ filter (lives.leaves_step names) (steps_by n xs)) (filter (lives.leaves_step names) (steps_by n xs))) (same_step x ∙ e)
            ∙ ap (λ ys. step_by n x ∷ ys) rest
            ∙ sym (ap (λ d. map (step_by n) (cond d (x ∷ filter does_something left) (filter does_something left))) f)
        by rest true f false e =
            ap (λ b. cond b (step_by n x ∷ filter (lives.leaves_step names) (steps_by n xs)) (filter (lives.leaves_step names) (steps_by n xs))) (same_step x ∙ e)
            ∙ rest
        by rest false f true e =
            rest ∙ sym (ap (λ d. map (step_by n) (cond d (x ∷ filter does_something left) (filter does_something left))) f)
        by rest false f false e = rest

    -- a class has the steps that it leaves, and behind them its own
    pub steps_below : (above own all : List Step) → all ≡ filter (leaves_step class) above ++ own
        → filter (lives.leaves_step names) (steps_by n above) ++ steps_by n own ≡ steps_by n all
    steps_below above own all is =
        ap (λ ss. ss ++ steps_by n own) (steps_left above)
        ∙ sym (steps_by-append (filter (leaves_step class) above) own)
        ∙ ap (steps_by n) (sym is)
