-- What a class has of the steps and callbacks of its direct superclass.
use Rattle.std.proofs.Common.{◌≡◌, ◌∙◌, ◌||◌, ◌&&◌, Bool, true, false, not, cond, List, [], ◌∷◌, ◌++◌, map, filter, Option, Some, None, refl, sym, ap, append_assoc}
use Rattle.std.proofs.lemmas.List.Elements.{filter-append, filter_map-append}
use Rattle.std.proofs.lemmas.List.Folds.{list_any-append}
use Rattle.std.proofs.lemmas.Option.{same_Some}
use Rattle.std.specs.List.{cons_option, list_any, filter_map}
use Rattle.cdi_deployment.specs.declared.deployment.Class.{Class}
use Rattle.cdi_deployment.specs.declared.deployment.InjectedField.{InjectedField}
use Rattle.cdi_deployment.specs.declared.deployment.Member.{Member}
use Rattle.cdi_deployment.specs.declared.deployment.Member.TheVariants as members
use Rattle.cdi_deployment.specs.Member.{member_name}
use Rattle.cdi_planner.specs.Codes.{post_construct, pre_destroy}
use Rattle.cdi_planner.specs.Inherited.{leaves_code, leaves_step}
use Rattle.cdi_planner.specs.Steps.{class_steps, initialization, injection, injections}
use Rattle.cdi_plans.specs.declared.plan.Code.{Code}
use Rattle.cdi_plans.specs.declared.plan.Step.{Step}
use Rattle.cdi_types.proofs.Lines.{inherited}
use Rattle.cdi_types.specs.Members.{comes_down, declares, inherits, is_inherited, members_of, parts_of}

-- what those give that pass a test, if what each gives passes one with the same result
module _ {X Y : Type 0} (h : X → Option Y) (p : X → Bool) (q : Y → Bool) (same : (x : X) (y : Y) → h x ≡ Some y → p x ≡ q y) where
  pub filter_map-filter : (xs : List X) → filter_map h (filter p xs) ≡ filter q (filter_map h xs)
  filter_map-filter [] = refl
  filter_map-filter (x ∷ xs) = by (filter_map-filter xs) (h x) refl (p x) refl
    where
      by : filter_map h (filter p xs) ≡ filter q (filter_map h xs) → (o : Option Y) → h x ≡ o → (b : Bool) → p x ≡ b
          → filter_map h (cond b (x ∷ filter p xs) (filter p xs)) ≡ filter q (cons_option o (filter_map h xs))
      by rest None e true f = ap (λ o. cons_option o (filter_map h (filter p xs))) e ∙ rest
      by rest None e false f = rest
      by rest (Some y) e true f =
          ap (λ o. cons_option o (filter_map h (filter p xs))) e ∙ ap (λ ys. y ∷ ys) rest
          ∙ sym (ap (λ b. cond b (y ∷ filter q (filter_map h xs)) (filter q (filter_map h xs))) (sym (same x y e) ∙ f))
      by rest (Some y) e false f =
          rest ∙ sym (ap (λ b. cond b (y ∷ filter q (filter_map h xs)) (filter q (filter_map h xs))) (sym (same x y e) ∙ f))

module _ (class : Class) where
  -- ---- what comes down past one class more

  any_push : (p : Class → Bool) (cs : List Class) → list_any p (cs ++ class ∷ []) ≡ (list_any p cs || (p class || false))
  any_push p cs = list_any-append p cs (class ∷ [])

  past_more : (cs : List Class) (owner : Class) (m : Member) → comes_down (cs ++ class ∷ []) m ≡ (comes_down cs m && inherits class (owner, m))
  past_more [] owner m = by (is_inherited m) (declares (member_name m) class)
    where
      by : (i e : Bool) → (i && not (e || false)) ≡ (i && not e)
      by true true = refl
      by true false = refl
      by false e = refl
  past_more (c ∷ cs) owner m =
      ap (λ b. is_inherited m && not b) (any_push (declares (member_name m)) (c ∷ cs))
      ∙ by (is_inherited m) (list_any (declares (member_name m)) (c ∷ cs)) (declares (member_name m) class)
    where
      by : (i d e : Bool) → (i && not (d || (e || false))) ≡ ((i && not d) && (i && not e))
      by true true e = refl
      by true false true = refl
      by true false false = refl
      by false d e = refl

  passed : (cs : List Class) (owner : Class) (ms : List Member) → parts_of owner (filter (comes_down (cs ++ class ∷ [])) ms) ≡ filter (inherits class) (parts_of owner (filter (comes_down cs) ms))
  passed cs owner [] = refl
  passed cs owner (m ∷ ms) =
      ap (λ b. parts_of owner (cond b (m ∷ filter (comes_down (cs ++ class ∷ [])) ms) (filter (comes_down (cs ++ class ∷ [])) ms))) (past_more cs owner m)
      ∙ by (passed cs owner ms) (comes_down cs m) (inherits class (owner, m)) refl
    where
      by : parts_of owner (filter (comes_down (cs ++ class ∷ [])) ms) ≡ filter (inherits class) (parts_of owner (filter (comes_down cs) ms))
          → (d i : Bool) → inherits class (owner, m) ≡ i
          → parts_of owner (cond (d && i) (m ∷ filter (comes_down (cs ++ class ∷ [])) ms) (filter (comes_down (cs ++ class ∷ [])) ms))
          ≡ filter (inherits class) (parts_of owner (cond d (m ∷ filter (comes_down cs) ms) (filter (comes_down cs) ms)))
      by rest true true e =
          ap (λ ps. (owner, m) ∷ ps) rest
          ∙ sym (ap (λ b. cond b ((owner, m) ∷ filter (inherits class) (parts_of owner (filter (comes_down cs) ms))) (filter (inherits class) (parts_of owner (filter (comes_down cs) ms)))) e)
      by rest true false e =
          rest ∙ sym (ap (λ b. cond b ((owner, m) ∷ filter (inherits class) (parts_of owner (filter (comes_down cs) ms))) (filter (inherits class) (parts_of owner (filter (comes_down cs) ms)))) e)
      by rest false i e = rest

  -- ---- callbacks

  same_post : (x : Class × Member) (y : Code) → post_construct x ≡ Some y → inherits class x ≡ leaves_code class y
  same_post (c, members.PostConstruct m) y e = ap (leaves_code class) (same_Some _ y e)
  same_post (c, members.Method m) y e = absurd cc
  same_post (c, members.Initializer m) y e = absurd cc
  same_post (c, members.PreDestroy m) y e = absurd cc
  same_post (c, members.Producer m) y e = absurd cc
  same_post (c, members.ProducerField m) y e = absurd cc
  same_post (c, members.Disposer m) y e = absurd cc
  same_post (c, members.Observer m) y e = absurd cc

  same_pre : (x : Class × Member) (y : Code) → pre_destroy x ≡ Some y → inherits class x ≡ leaves_code class y
  same_pre (c, members.PreDestroy m) y e = ap (leaves_code class) (same_Some _ y e)
  same_pre (c, members.Method m) y e = absurd cc
  same_pre (c, members.Initializer m) y e = absurd cc
  same_pre (c, members.PostConstruct m) y e = absurd cc
  same_pre (c, members.Producer m) y e = absurd cc
  same_pre (c, members.ProducerField m) y e = absurd cc
  same_pre (c, members.Disposer m) y e = absurd cc
  same_pre (c, members.Observer m) y e = absurd cc

  given_below : {Y : Type 0} (h : Class × Member → Option Y) (q : Y → Bool) → ((x : Class × Member) (y : Y) → h x ≡ Some y → inherits class x ≡ q y)
      → (line : List Class) → filter_map h (members_of (line ++ class ∷ [])) ≡ filter q (filter_map h (members_of line)) ++ filter_map h (members_of (class ∷ []))
  given_below h q same line =
      ap (filter_map h) (inherited class line ∙ ap (λ ms. filter (inherits class) (members_of line) ++ ms) (sym (inherited class [])))
      ∙ filter_map-append h (filter (inherits class) (members_of line)) (members_of (class ∷ []))
      ∙ ap (λ ys. ys ++ filter_map h (members_of (class ∷ []))) (filter_map-filter h (inherits class) q same (members_of line))

  pub post_constructs_below : (line : List Class) → filter_map post_construct (members_of (line ++ class ∷ []))
      ≡ filter (leaves_code class) (filter_map post_construct (members_of line)) ++ filter_map post_construct (members_of (class ∷ []))
  post_constructs_below = given_below post_construct (leaves_code class) same_post

  pub pre_destroys_below : (line : List Class) → filter_map pre_destroy (members_of (line ++ class ∷ []))
      ≡ filter (leaves_code class) (filter_map pre_destroy (members_of line)) ++ filter_map pre_destroy (members_of (class ∷ []))
  pre_destroys_below = given_below pre_destroy (leaves_code class) same_pre

  -- ---- injected fields and initializers

  same_initialization : (x : Class × Member) (y : Step) → initialization x ≡ Some y → inherits class x ≡ leaves_step class y
  same_initialization (c, members.Initializer m) y e = ap (leaves_step class) (same_Some _ y e)
  same_initialization (c, members.Method m) y e = absurd cc
  same_initialization (c, members.PostConstruct m) y e = absurd cc
  same_initialization (c, members.PreDestroy m) y e = absurd cc
  same_initialization (c, members.Producer m) y e = absurd cc
  same_initialization (c, members.ProducerField m) y e = absurd cc
  same_initialization (c, members.Disposer m) y e = absurd cc
  same_initialization (c, members.Observer m) y e = absurd cc

  injections_left : (fields : List InjectedField) → filter (leaves_step class) (map injection fields) ≡ map injection fields
  injections_left [] = refl
  injections_left (f ∷ fs) = ap (λ steps. injection f ∷ steps) (injections_left fs)

  class_steps_below : (c : Class) (below : List Class) → class_steps c (below ++ class ∷ []) ≡ filter (leaves_step class) (class_steps c below)
  class_steps_below c below =
      let come = filter_map initialization (parts_of c (filter (comes_down below) c.members)) in
      ap (λ steps. map injection c.inject ++ steps)
      (ap (filter_map initialization) (passed below c c.members)
      ∙ filter_map-filter initialization (inherits class) (leaves_step class) same_initialization (parts_of c (filter (comes_down below) c.members)))
      ∙ ap (λ steps. steps ++ filter (leaves_step class) come) (sym (injections_left c.inject))
      ∙ sym (filter-append (leaves_step class) (map injection c.inject) come)

  pub injections_below : (line : List Class) → injections (line ++ class ∷ []) ≡ filter (leaves_step class) (injections line) ++ injections (class ∷ [])
  injections_below [] = refl
  injections_below (c ∷ below) =
      ap (λ steps. steps ++ injections (below ++ class ∷ [])) (class_steps_below c below)
      ∙ ap (λ steps. filter (leaves_step class) (class_steps c below) ++ steps) (injections_below below)
      ∙ sym (append_assoc (filter (leaves_step class) (class_steps c below)) (filter (leaves_step class) (injections below)) (injections (class ∷ [])))
      ∙ ap (λ steps. steps ++ injections (class ∷ [])) (sym (filter-append (leaves_step class) (class_steps c below) (injections below)))
