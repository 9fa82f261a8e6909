-- The fields of a new instance, and what is injected into it.
use Rattle.std.proofs.Common.{ℕ, ◌≡◌, ◌∙◌, ◌||◌, ◌⊎◌, inl, inr, Bool, true, false, cond, nat_eq, List, [], ◌∷◌, ◌++◌, filter, map, fold, Option, Some, None, refl, sym, ap, subst}
use Rattle.std.proofs.lemmas.Bool.{eqb-true, true≢false}
use Rattle.std.specs.List.{filter_map, list_any}
use Rattle.cdi_base.specs.Fields.{has, put}
use Rattle.cdi_base.specs.declared.value.Value.{Value}
use Rattle.cdi_bean_check.specs.Repeated.{has_field as has_field_of}
use Rattle.cdi_beans.specs.declared.bean.Bean.{Bean}
use Rattle.cdi_plans.specs.Chains.{ChainTables, interceptors_of}
use Rattle.cdi_deployment.specs.declared.deployment.Class.{Class}
use Rattle.cdi_deployment.specs.declared.deployment.Constructor.{Constructor}
use Rattle.cdi_deployment.specs.declared.deployment.Field.{Field}
use Rattle.cdi_deployment.specs.declared.deployment.InjectedField.{InjectedField}
use Rattle.cdi_deployment.specs.declared.deployment.Member.{Member}
use Rattle.cdi_deployment.specs.declared.deployment.Member.TheVariants as members
use Rattle.cdi_deployment.specs.declared.deployment.Point.{Point}
use Rattle.cdi_machine.specs.Words.{Asked, Fields}
use Rattle.cdi_machine.specs.Tables as machine
use Rattle.cdi_types.specs.Members.{comes_down, fields_of, members_of, parts_of}
use Rattle.cdi_planner.proofs.Names.{same}
use Rattle.cdi_planner.specs.Codes.{completion}
use Rattle.cdi_planner.specs.Plans.{initial_fields}
use Rattle.cdi_planner.specs.Steps.{class_steps, construction, initialization, injection, injections, steps_of}
use Rattle.cdi_plans.specs.declared.plan.Step.{Step}
use Rattle.cdi_plans.specs.declared.plan.Step.TheVariants as steps
use Rattle.cdi_run_tables.specs.Machine.{asked_by, does_something, first_values, machine_step, machine_steps}
use Rattle.cdi_shape_check.specs.OwnParts.{has_field}
use Rattle.cdi_body_check.specs.WrittenPoints.{point_of_field}
use Rattle.cdi_accepted.proofs.Duplicates.{IsNamedApart}
use Rattle.cdi_accepted.proofs.Lines.{ArePairs}
use Rattle.cdi_accepted.proofs.Lists.{Among, among_flat_map, among_map, among_parts, any_passes, given, mapped, of_filter, passing}
use Rattle.cdi_accepted.proofs.Repeats.{Fits}

-- ---- fields with values

put_has : (fields : Fields) (name : ℕ) (v : Value) → has (put fields name v) name ≡ true
put_has [] name v = ap (λ b. b || false) (same name)
put_has (p ∷ fields) name v = by (nat_eq name p.0) refl (put_has fields name v)
  where
    by : (b : Bool) → nat_eq name p.0 ≡ b → has (put fields name v) name ≡ true → has (cond b ((p.0, v) ∷ fields) (p ∷ put fields name v)) name ≡ true
    by true e h = ap (λ b. b || has fields name) e
    by false e h = ap (λ b. b || has (put fields name v) name) e ∙ h

put_keeps : (fields : Fields) (name other : ℕ) (v : Value) → has fields other ≡ true → has (put fields name v) other ≡ true
put_keeps [] name other v e = absurd (true≢false (sym e))
put_keeps (p ∷ fields) name other v e = by (nat_eq name p.0) (put_keeps fields name other v)
  where
    later : (c : Bool) → (has fields other ≡ true → has (put fields name v) other ≡ true) → (c || has fields other) ≡ true → (c || has (put fields name v) other) ≡ true
    later true h q = refl
    later false h q = h q

    by : (b : Bool) → (has fields other ≡ true → has (put fields name v) other ≡ true) → has (cond b ((p.0, v) ∷ fields) (p ∷ put fields name v)) other ≡ true
    by true h = e
    by false h = later (nat_eq other p.0) h e

abbrev with_field : Fields → Field → Fields
with_field all f = put all f.name f.value

fold_keeps : (before : Fields) (fields : List Field) (name : ℕ) → has before name ≡ true → has (fold with_field before fields) name ≡ true
fold_keeps before [] name e = e
fold_keeps before (f ∷ fields) name e = fold_keeps (with_field before f) fields name (put_keeps before f.name name f.value e)

fold_has : (before : Fields) (fields : List Field) (f : Field) → Among f fields → has (fold with_field before fields) f.name ≡ true
fold_has before [] f a = absurd a
fold_has before (g ∷ fields) f (inl one) =
    let P : Field → Type 0 = λ k. has (with_field before g) k.name ≡ true in
    fold_keeps (with_field before g) fields f.name (subst P (sym one) (put_has before g.name g.value))
fold_has before (g ∷ fields) f (inr a) = fold_has (with_field before g) fields f a

-- a field that some class of the line declares
pub has_first : (line : List Class) (name : ℕ) → list_any (λ c. has_field name c.fields) line ≡ true → has (first_values (initial_fields line)) name ≡ true
has_first line name e =
    let class = passing (λ (c : Class). has_field name c.fields) line e in
    let field = passing (λ (f : Field). nat_eq f.name name) class.item.fields class.passes in
    let part : Among (class.item, field.item) (fields_of line) =
    among_flat_map (λ (c : Class). parts_of c c.fields) line class.item (class.item, field.item) class.stands
    (among_map (λ part. (class.item, part)) class.item.fields field.item field.stands) in
    let listed : Among field.item (initial_fields line) = among_map (λ (f : Class × Field). f.1) (fields_of line) (class.item, field.item) part in
    subst (λ n. has (first_values (initial_fields line)) n ≡ true) (eqb-true field.item.name name field.passes) (fold_has [] (initial_fields line) field.item listed)

-- ---- injected fields

-- an injected field that a class of the line declares
pub record IsInjected (line : List Class) (f : InjectedField) : Type 0 where
  pub class : Class
  pub stands : Among class line
  pub declared : Among f class.inject

has_injected : (name : ℕ) (c : Class) (f : InjectedField) → Among f c.inject → f.name ≡ name → has_field_of name c ≡ true
has_injected name c f a e = by (list_any (λ (k : Field). nat_eq k.name name) c.fields) (any_passes (λ (k : InjectedField). nat_eq k.name name) c.inject f a (ap (λ n. nat_eq n name) e ∙ same name))
  where
    by : (b : Bool) → list_any (λ (k : InjectedField). nat_eq k.name name) c.inject ≡ true → (b || list_any (λ (k : InjectedField). nat_eq k.name name) c.inject) ≡ true
    by true t = refl
    by false t = t

-- they are named apart
pub one_injected : (line : List Class) → ArePairs Fits line → ((c : Class) → Among c line → IsNamedApart c) → (f g : InjectedField) → IsInjected line f → IsInjected line g → f.name ≡ g.name → f ≡ g
one_injected [] pairs apart f g a b e = absurd a.stands
one_injected (c ∷ below) pairs apart f g a b e = by (one_injected below pairs.1 (λ k there. apart k (inr there)) f g) a.stands b.stands
  where
    in_first : (k : Class) (h : InjectedField) → k ≡ c → Among h k.inject → Among h c.inject
    in_first k h is there = let P : Class → Type 0 = λ x. Among h x.inject in subst P is there

    apart_from : (x y : InjectedField) (k : Class) → Among x c.inject → Among k below → Among y k.inject → x.name ≡ y.name → ⊥
    apart_from x y k here there own named = true≢false (sym (has_injected y.name c x here named) ∙ (pairs.0 k there).inject y own)

    by : (IsInjected below f → IsInjected below g → f.name ≡ g.name → f ≡ g) → Among a.class (c ∷ below) → Among b.class (c ∷ below) → f ≡ g
    by more (inl s) (inl r) = (apart c (inl refl)).inject f g (in_first a.class f s a.declared) (in_first b.class g r b.declared) e
    by more (inl s) (inr r) = absurd (apart_from f g b.class (in_first a.class f s a.declared) r b.declared e)
    by more (inr s) (inl r) = absurd (apart_from g f a.class (in_first b.class g r b.declared) s a.declared (sym e))
    by more (inr s) (inr r) =
        more (record { class = a.class; stands = s; declared = a.declared }) (record { class = b.class; stands = r; declared = b.declared }) e

-- ---- steps that inject

-- an injected field that a step comes from
pub record IsStepOf (line : List Class) (field : ℕ) (point : Point) : Type 0 where
  pub injected : InjectedField
  pub is : IsInjected line injected
  pub name : field ≡ injected.name
  pub point_is : point ≡ point_of_field injected

no_initialization : (m : Class × Member) (field : ℕ) (point : Point) → initialization m ≡ Some (steps.Inject field point) → ⊥
no_initialization (c, members.Initializer m) field point e = absurd cc
no_initialization (c, members.Method m) field point e = absurd cc
no_initialization (c, members.PostConstruct m) field point e = absurd cc
no_initialization (c, members.PreDestroy m) field point e = absurd cc
no_initialization (c, members.Producer m) field point e = absurd cc
no_initialization (c, members.ProducerField m) field point e = absurd cc
no_initialization (c, members.Disposer m) field point e = absurd cc
no_initialization (c, members.Observer m) field point e = absurd cc

of_injections : (line : List Class) (field : ℕ) (point : Point) → Among (steps.Inject field point) (injections line) → IsStepOf line field point
of_injections [] field point a = absurd a
of_injections (c ∷ below) field point a = by (of_injections below field point) (among_parts (class_steps c below) (injections below) (steps.Inject field point) a)
  where
    own : List Step
    own = map injection c.inject

    initializers : List Step
    initializers = filter_map initialization (parts_of c (filter (comes_down below) c.members))

    in_class : Among (steps.Inject field point) own ⊎ Among (steps.Inject field point) initializers → IsStepOf (c ∷ below) field point
    in_class (inl s) =
        let found = mapped injection c.inject (steps.Inject field point) s in
        let name : field ≡ found.item.name = cc (found.is) in
        let point_is : point ≡ point_of_field found.item = cc (found.is) in
        record { injected = found.item; is = record { class = c; stands = inl refl; declared = found.stands }; name = name; point_is = point_is }
    in_class (inr s) =
        let found = given initialization (parts_of c (filter (comes_down below) c.members)) (steps.Inject field point) s in
        absurd (no_initialization found.item field point found.is)

    by : (Among (steps.Inject field point) (injections below) → IsStepOf below field point) → Among (steps.Inject field point) (class_steps c below) ⊎ Among (steps.Inject field point) (injections below) → IsStepOf (c ∷ below) field point
    by rest (inl s) = in_class (among_parts own initializers (steps.Inject field point) s)
    by rest (inr s) =
        let more = rest s in
        record {
          injected = more.injected;
          is = record { class = more.is.class; stands = inr more.is.stands; declared = more.is.declared };
          name = more.name;
          point_is = more.point_is;
        }

-- a step that injects comes from an injected field of the line
pub of_steps : (t : ChainTables) (constructor : Option Constructor) (b : Bean) (line : List Class) (field : ℕ) (point : Point)
    → Among (steps.Inject field point) (steps_of t constructor b line) → IsStepOf line field point
of_steps t constructor b line field point a =
    last (among_parts (intercepting ++ made ++ injections line) completing step a)
  where
    step : Step
    step = steps.Inject field point

    intercepting : List Step
    intercepting = map steps.Intercept (interceptors_of t b)

    made : List Step
    made = construction t b.class constructor ∷ []

    completing : List Step
    completing = steps.Complete (completion t b.class (members_of line)) ∷ []

    no_construction : (k : Option Constructor) → step ≡ construction t b.class k → ⊥
    no_construction None e = absurd cc
    no_construction (Some k) e = absurd cc

    first : Among step intercepting ⊎ Among step made → ⊥
    first (inl s) =
        let found = mapped steps.Intercept (interceptors_of t b) step s in
        let e = found.is in absurd cc
    first (inr (inl e)) = no_construction constructor e
    first (inr (inr never)) = never

    middle : Among step (intercepting ++ made) ⊎ Among step (injections line) → IsStepOf line field point
    middle (inl s) = absurd (first (among_parts intercepting made step s))
    middle (inr s) = of_injections line field point s

    last : Among step (intercepting ++ made ++ injections line) ⊎ Among step completing → IsStepOf line field point
    last (inl s) = middle (among_parts (intercepting ++ made) (injections line) step s)
    last (inr (inl e)) = absurd cc
    last (inr (inr never)) = absurd never

-- a step of a plan that the machine injects by
pub record IsPlannedStep (all : List Step) (field : ℕ) (asked : Asked) : Type 0 where
  pub point : Point
  pub stands : Among (steps.Inject field point) all
  pub is : asked ≡ asked_by point

pub of_machine : (ids : ℕ → Option ℕ) (all : List Step) (field : ℕ) (asked : Asked) → Among (machine.Step.Inject field asked) (machine_steps ids all) → IsPlannedStep all field asked
of_machine ids all field asked a =
    let found = mapped (machine_step ids) (filter does_something all) (machine.Step.Inject field asked) a in
    by found.item found.is (of_filter does_something all found.item found.stands).0
  where
    by : (s : Step) → machine.Step.Inject field asked ≡ machine_step ids s → Among s all → IsPlannedStep all field asked
    by (steps.Inject name point) e stands =
        let one : name ≡ field = cc in
        let is : asked ≡ asked_by point = cc in
        record { point = point; stands = subst (λ n. Among (steps.Inject n point) all) one stands; is = is }
    by (steps.Intercept i) e stands = absurd cc
    by (steps.Construct points l) e stands = absurd cc
    by (steps.Initialize code points) e stands = absurd cc
    by (steps.Complete l) e stands = absurd cc
