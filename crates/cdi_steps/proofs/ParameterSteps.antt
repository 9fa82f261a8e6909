-- The steps of constructors and initializers are those of the machine.
use Rattle.std.proofs.Common.{ℕ, zero, suc, subst, map, Bor, slice_index_or, ◌≡◌, ◌+◌, ◌-◌, ◌++◌, ◌<◌, ◌≤◌, List, [], ◌∷◌, length, refl, sym, ◌∙◌, ap, arith, Option, Some, None, Bool, true, false}
use Rattle.std.proofs.Math.Path.{fun_ext}
use Rattle.std.proofs.lemmas.List.{append-nil, append_assoc}
use Rattle.std.proofs.lemmas.List.Elements.{All-nil}
use Rattle.std.specs.Option.{option_copied}
use Rattle.std.specs.Global.{Box}
use Rattle.std.specs.Prelude.{option_map, slice_get, IsSome, IfSome}
use Rattle.cdi_base.specs.declared.built_in.BuiltIn.TheVariants as built_in
use Rattle.cdi_base.specs.BuiltIn.{number_of}
use Rattle.cdi_base.specs.declared.place.InterceptorMethod.TheVariants as roles
use Rattle.cdi_store.specs.declared.instance.Component.{Component}
use Rattle.cdi_store.specs.declared.instance.Owner.TheVariants as owners
use Rattle.cdi_store.specs.declared.references.Reference.{Reference}
use Rattle.cdi_store.specs.declared.references.Reference.TheVariants.{Proxy}
use Rattle.cdi_machine.specs.Words.{Name, Asked}
use Rattle.cdi_machine.specs.Tables.{Tables, Bean, Code, Lifecycle, Step, Resolution, One}
use Rattle.cdi_machine.specs.World.{World, Change, Invocation, after_change}
use Rattle.cdi_machine.specs.Programs as machine
use Rattle.cdi_machine.specs.Programs.{Given, Number, Completion, Gave, Threw, Prog, ret, throw, see, nested, change, handle, finally, tell_missing, require, complete, call, finish, raise, alter, each, invocation, ◌>>=◌, ◌>>◌}
use Rattle.cdi_machine.specs.Bodies.{invocation_at_start}
use Rattle.cdi_machine.specs.Contexts.{is_normal, direct_reference, resolve_point, resolve_points}
use Rattle.cdi_machine.specs.Creation.{create_by, take_step}
use Rattle.cdi_host.specs.Asked.{head_of, last_of, machine_resolution, plan_at, top_of}
use Rattle.cdi_host.specs.declared.beans.BeanHead.{BeanHead}
use Rattle.cdi_machine.specs.Resolved.{AreResolved, IsResolved, IsResolvedStep}
use Rattle.cdi_machine.specs.Told.{point_told, step_told}
use Rattle.cdi_machine.specs.declared.point.Point.{Point as CodePoint}
use Rattle.cdi_machine.specs.declared.point.Resolution.TheVariants as resolutions
use Rattle.cdi_machine.specs.declared.step.Step.{Step as CodeStep}
use Rattle.cdi_machine.specs.declared.step.Step.TheVariants as code_steps
use Rattle.cdi_steps.specs.Words.{given_of}
use Rattle.cdi_steps.specs.Meanings.{node, create_on}
use Rattle.cdi_steps.specs.Parameters.{create_from, parameters_of, step_before, points_in, constructs, take, take_in, end_construction, provide_behind, provide_remaining, provide_made, run_construction, after_step, IsStepOf, IsNextPoint, RunsInitializer}
use Rattle.cdi_steps.specs.Known.{AllInvoked, AreParameters, HasParameters, IsInitializerBody, IsNextStep, of_initializer}
use Rattle.cdi_steps.specs.Leads.{next_stop, after_steps, Comes}
use Rattle.cdi_steps.specs.Steps.{Moves}
use Rattle.cdi_steps.proofs.Changes.{exit_invoked}
use Rattle.cdi_steps.proofs.Heads.{IsThere, is_absent}
use Rattle.cdi_steps.proofs.InjectionSteps.{by_scope, chosen, discards, made_for, referred}
use Rattle.cdi_steps.proofs.LastSteps.{all_left, first_left, next_is_there, next_left, none_left}
use Rattle.cdi_steps.proofs.Sequences.{bind_after}
use Rattle.cdi_steps.proofs.Ways.{MovesTo, WaitsTo}
use Rattle.cdi_steps.specs.declared.task.Call.TheVariants as calls
use Rattle.cdi_steps.specs.declared.task.Completion.TheVariants as completions
use Rattle.cdi_steps.specs.declared.task.Given.{Given as CodeGiven}
use Rattle.cdi_steps.specs.declared.task.Frame.TheVariants as frames
use Rattle.cdi_steps.specs.declared.task.Next.{Next}
use Rattle.cdi_steps.specs.declared.task.Next.TheVariants as nexts
use Rattle.cdi_steps.specs.declared.task.Parameters.{Parameters}
use Rattle.cdi_steps.specs.declared.task.Task.TheVariants as tasks

-- ---- programs

-- a creation by steps takes the first, and then the others
pub steps_first : (n : ℕ) (x : Step) (xs : List Step) → create_on n (x ∷ xs) ≡ create_from n (take_step n x) xs
steps_first n x [] = refl
steps_first n x (y ∷ ys) = ap (create_by n) (bind_after (take_step n x) (λ _. each (y ∷ ys) (take_step n)) (λ _. ret (Number n)))

-- what takes the references, with those that come behind these
abbrev taking : ℕ → Option Step → List Reference → List Reference → Prog Given
taking n step rs others = take n step (rs ++ others)

one_more : (rs : List Reference) (r : Reference) (others : List Reference) → rs ++ (r ∷ others) ≡ (rs ++ r ∷ []) ++ others
one_more rs r others = sym (append_assoc rs (r ∷ []) others)

-- the first of the points that are left, and then the others
points_first : (n : ℕ) (step : Option Step) (point : Asked) (points : List Asked) (rs : List Reference)
    → (resolve_points (point ∷ points) (owners.Instance n) >>= taking n step rs)
    ≡ (resolve_point point (owners.Instance n) >>= λ r. resolve_points points (owners.Instance n) >>= taking n step (rs ++ r ∷ []))
points_first n step point points rs =
    bind_after (resolve_point point (owners.Instance n)) (λ r. resolve_points points (owners.Instance n) >>= λ others. ret (r ∷ others)) (taking n step rs)
    ∙ ap (λ k. resolve_point point (owners.Instance n) >>= k)
    (fun_ext (λ r.
    bind_after (resolve_points points (owners.Instance n)) (λ others. ret (r ∷ others)) (taking n step rs)
    ∙ ap (λ k. resolve_points points (owners.Instance n) >>= k) (fun_ext (λ others. ap (take n step) (one_more rs r others)))))

-- ---- a parameter, whatever comes behind it

module _ (t : Tables) (n : ℕ) (steps : List Step) (w : World) where
  abbrev within : Bool → Prog Given → Prog Given
  within k p = create_from n (end_construction k p) steps

  -- a step that throws
  pub failing : (k : Bool) (x : Name) → next_stop t (within k (throw x)) w ≡ (node (nexts.Needs (tasks.Start (calls.Release n)) (frames.Discarding n x)), after_step k w)
  failing true x = ap (λ k. (nested (machine.Release n) k, after_change Change.Exit w)) (fun_ext (discards n x))
  failing false x = ap (λ k. (nested (machine.Release n) k, w)) (fun_ext (discards n x))

  module _ (q : Reference → Prog Given) where
    looked : (k : Bool) (point : Asked)
        → next_stop t (within k (resolve_point point (owners.Instance n) >>= q)) w ≡ next_stop t (within k (chosen n (t.resolve point) >>= q)) w
    looked true point = refl
    looked false point = refl

    found : (k : Bool) (i : ℕ) → next_stop t (within k (chosen n (One i) >>= q)) w ≡ next_stop t (within k (referred n i (t.bean i) >>= q)) w
    found true i = refl
    found false i = refl

    thrown : (k : Bool) (x : Name) → next_stop t (within k (throw x >>= q)) w ≡ next_stop t (within k (throw x)) w
    thrown true x = refl
    thrown false x = refl

    absent : (k : Bool) → next_stop t (within k (tell_missing >>= q)) w ≡ next_stop t (within k (throw (number_of built_in.IllegalStateException))) w
    absent true = refl
    absent false = refl

    looked_after : (k : Bool) (point : Asked)
        → after_steps 2 t (within k (resolve_point point (owners.Instance n) >>= q)) w ≡ after_steps 1 t (within k (chosen n (t.resolve point) >>= q)) w
    looked_after true point = refl
    looked_after false point = refl

    found_after : (k : Bool) (i : ℕ) → after_steps 1 t (within k (chosen n (One i) >>= q)) w ≡ (within k (referred n i (t.bean i) >>= q), w)
    found_after true i = refl
    found_after false i = refl

    asks : (k : Bool) (i : ℕ)
        → next_stop t (within k (made_for (call (machine.Create i (owners.Instance n))) >>= q)) w
        ≡ (nested (machine.Create i (owners.Instance n)) (λ c. within k (made_for (complete c) >>= q)), w)
    asks true i = refl
    asks false i = refl

-- ---- the step of parameters

module _ (t : Tables) where
  -- it is the one that the tables have at its place
  the_same : (p : Parameters) (i : ℕ) (x : Step) (h : AreParameters t p) → i ≡ length (plan_at t p.component) - p.left - 1 → slice_get (plan_at t p.component) i ≡ Some x → h.step ≡ x
  the_same p i x h place found =
      let e = next_left (plan_at t p.component) (p.left + 1) i (omega arith) (omega (arith, h.is.left)) (omega (arith, place)) found in
      let both : Some h.step ≡ Some x = ap top_of (sym h.is.stands ∙ e) in
      cc

  pub step_is : {A : Type 0} (now : A → CodeStep) (p : Parameters) (i : ℕ) (o : Option A) → AreParameters t p → i ≡ length (plan_at t p.component) - p.left - 1
      → slice_get (plan_at t p.component) i ≡ option_map (λ s. step_told (now s)) o → IfSome o (λ s. IsStepOf t p (step_told (now s)))
  step_is now p i None h place found = tt
  step_is now p i (Some s) h place found = subst (IsStepOf t p) (the_same p i (step_told (now s)) h place found) h.is

  pub step_has : {A : Type 0} (now : A → CodeStep) (p : Parameters) (i : ℕ) (o : Option A) → AreParameters t p → i ≡ length (plan_at t p.component) - p.left - 1
      → slice_get (plan_at t p.component) i ≡ option_map (λ s. step_told (now s)) o → IfSome o (λ s. HasParameters (step_told (now s)))
  step_has now p i None h place found = tt
  step_has now p i (Some s) h place found = subst HasParameters (the_same p i (step_told (now s)) h place found) h.has

  pub step_there : {A : Type 0} (now : A → CodeStep) (p : Parameters) (i : ℕ) (o : Option A) → AreParameters t p → i ≡ length (plan_at t p.component) - p.left - 1
      → slice_get (plan_at t p.component) i ≡ option_map (λ s. step_told (now s)) o → IsSome o
  step_there now p i None h place found = absurd (next_is_there (plan_at t p.component) (p.left + 1) i (omega arith) (omega (arith, h.is.left)) (omega (arith, place)) found)
  step_there now p i (Some s) h place found = refl

  -- with a parameter more, and fewer without a reference
  pub still_parameters : (p o : Parameters) (remaining : ℕ) (rs : List Reference) → o ≡ record p { remaining = remaining; references = rs } → remaining ≤ p.remaining → AreParameters t p → AreParameters t o
  still_parameters p o remaining rs e fewer h =
      rw e (record { step = h.step; is = record { stands = h.is.stands; left = h.is.left; remaining = omega (arith, fewer, h.is.remaining) }; has = h.has })

  pub after_step_invoked : (k : Bool) {w : World} → AllInvoked t w → AllInvoked t (after_step k w)
  after_step_invoked true h = exit_invoked h
  after_step_invoked false h = h

-- ---- the points that are left

pub told_at : (points : List CodePoint) (i : ℕ) (x : CodePoint) → slice_get points i ≡ Some x → slice_get (map point_told points) i ≡ Some (point_told x)
told_at [] i x e = absurd (cc)
told_at (y ∷ ys) zero x e = let q : y ≡ x = cc in ap (λ z. Some (point_told z)) q
told_at (y ∷ ys) (suc i) x e = told_at ys i x e

told_length : (points : List CodePoint) → length (map point_told points) ≡ length points
told_length [] = refl
told_length (y ∷ ys) = ap suc (told_length ys)

-- the next one, and those behind it
pub next_told : (points : List CodePoint) (asked : List Asked) (left i : ℕ) (x : CodePoint) → map point_told points ≡ asked → 0 < left → left ≤ length asked → i ≡ length points - left → slice_get points i ≡ Some x
    → last_of left asked ≡ point_told x ∷ last_of (left - 1) asked
next_told points asked left i x e some few place found =
    let n = told_length points in
    let m : length (map point_told points) ≡ length asked = ap length e in
    subst (λ xs. last_of left xs ≡ point_told x ∷ last_of (left - 1) xs) e
    (next_left (map point_told points) left i some (omega (arith, few, m)) (omega (arith, place, n)) (told_at points i x found))

parameters_told : (s : CodeStep) → map point_told (parameters_of s) ≡ points_in (step_told s)
parameters_told (code_steps.Intercept i) = refl
parameters_told (code_steps.Construct points l) = refl
parameters_told (code_steps.Inject field point) = refl
parameters_told (code_steps.Initialize code points) = refl
parameters_told (code_steps.Complete l) = refl

pub next_is : (s : CodeStep) (left i : ℕ) (o : Option (Bor CodePoint)) → 0 < left → left ≤ length (points_in (step_told s)) → i ≡ length (parameters_of s) - left → option_copied o ≡ slice_get (parameters_of s) i
    → IfSome o (λ p. last_of left (points_in (step_told s)) ≡ point_told p.now ∷ last_of (left - 1) (points_in (step_told s)))
next_is s left i None some few place e = tt
next_is s left i (Some p) some few place e = next_told (parameters_of s) (points_in (step_told s)) left i p.now (parameters_told s) some few place (sym e)

index_is : (points : List CodePoint) (i : ℕ) (p : CodePoint) → slice_get points i ≡ Some p → slice_index_or points i p ≡ p
index_is [] i p e = absurd (cc)
index_is (y ∷ ys) zero p e = cc
index_is (y ∷ ys) (suc i) p e = index_is ys i p e

index_below : (points : List CodePoint) (i : ℕ) (p : CodePoint) → slice_get points i ≡ Some p → i < length points
index_below [] i p e = absurd (cc)
index_below (y ∷ ys) zero p e = omega arith
index_below (y ∷ ys) (suc i) p e = let h = index_below ys i p e in omega (arith, h)

-- and what it asks for is resolved
pub point_resolved : (resolve : Asked → Resolution) (points : List CodePoint) (i : ℕ) (p : CodePoint) → AreResolved resolve points → slice_get points i ≡ Some p → IsResolved resolve p
point_resolved resolve points i p all e = subst (IsResolved resolve) (index_is points i p e) (all i p (index_below points i p e))

parameters_resolved : (resolve : Asked → Resolution) (s : CodeStep) → IsResolvedStep resolve s → AreResolved resolve (parameters_of s)
parameters_resolved resolve (code_steps.Intercept i) h = All-nil (IsResolved resolve)
parameters_resolved resolve (code_steps.Construct points l) h = h
parameters_resolved resolve (code_steps.Inject field point) h = All-nil (IsResolved resolve)
parameters_resolved resolve (code_steps.Initialize code points) h = h
parameters_resolved resolve (code_steps.Complete l) h = All-nil (IsResolved resolve)

pub next_resolved : (resolve : Asked → Resolution) (s : CodeStep) (i : ℕ) (o : Option (Bor CodePoint)) → IsResolvedStep resolve s → option_copied o ≡ slice_get (parameters_of s) i
    → IfSome o (λ p. IsResolved resolve p.now)
next_resolved resolve s i None h e = tt
next_resolved resolve s i (Some p) h e = point_resolved resolve (parameters_of s) i p.now (parameters_resolved resolve s h) (sym e)

pub next_there : (s : CodeStep) (left i : ℕ) (o : Option (Bor CodePoint)) → 0 < left → left ≤ length (points_in (step_told s)) → i ≡ length (parameters_of s) - left → option_copied o ≡ slice_get (parameters_of s) i → IsSome o
next_there s left i None some few place e =
    let n = told_length (parameters_of s) in
    let m : length (map point_told (parameters_of s)) ≡ length (points_in (step_told s)) = ap length (parameters_told s) in
    absurd (next_is_there (parameters_of s) left i some (omega (arith, few, n, m)) place (sym e))
next_there s left i (Some p) some few place e = refl

-- ---- the next parameter

module _ (t : Tables) (p : Box Parameters) (step : Step) (point : Asked) (w : World) (h : IsNextPoint t p.value step point) where
  abbrev steps : List Step
  steps = last_of p.value.left (plan_at t p.value.component)

  -- the step, and those behind it
  abbrev with_step : Option Step → Prog Given
  with_step x = create_from p.value.number (provide_remaining p.value.number x p.value.remaining p.value.references) steps

  -- what comes behind the reference
  abbrev behind : Reference → Prog Given
  behind r = provide_behind p.value.number (Some step) (p.value.remaining - 1) (p.value.references ++ r ∷ [])

  the_step : step_before t p.value.component p.value.left ≡ Some step
  the_step = ap top_of h.of_step.stands

  starts : with_step (step_before t p.value.component p.value.left)
      ≡ within t p.value.number steps w (constructs step) (resolve_point point (owners.Instance p.value.number) >>= behind)
  starts =
      ap with_step the_step
      ∙ ap (λ points. create_from p.value.number (end_construction (constructs step) (resolve_points points (owners.Instance p.value.number) >>= taking p.value.number (Some step) p.value.references)) steps) h.next
      ∙ ap (λ k. create_from p.value.number (end_construction (constructs step) k) steps) (points_first p.value.number (Some step) point (last_of (p.value.remaining - 1) (points_in step)) p.value.references)

  resolved : {x : Resolution} → t.resolve point ≡ x
      → next_stop t (with_step (step_before t p.value.component p.value.left)) w ≡ next_stop t (within t p.value.number steps w (constructs step) (chosen p.value.number x >>= behind)) w
  resolved e =
      ap (λ k. next_stop t k w) starts
      ∙ looked t p.value.number steps w behind (constructs step) point
      ∙ ap (λ x. next_stop t (within t p.value.number steps w (constructs step) (chosen p.value.number x >>= behind)) w) e

  fails_with : (q : Prog Reference) (x : Name)
      → next_stop t (within t p.value.number steps w (constructs step) (q >>= behind)) w ≡ next_stop t (within t p.value.number steps w (constructs step) (throw x)) w
      → next_stop t (with_step (step_before t p.value.component p.value.left)) w ≡ next_stop t (within t p.value.number steps w (constructs step) (q >>= behind)) w
      → MovesTo t (tasks.Providing p) w (nexts.Needs (tasks.Start (calls.Release p.value.number)) (frames.Discarding p.value.number x)) (after_step (constructs step) w)
  fails_with q x e f = Comes.same (f ∙ e ∙ failing t p.value.number steps w (constructs step) x)

  pub refer_nothing : t.resolve point ≡ machine_resolution resolutions.Nothing
      → MovesTo t (tasks.Providing p) w (nexts.Needs (tasks.Start (calls.Release p.value.number)) (frames.Discarding p.value.number (number_of built_in.UnsatisfiedResolutionException))) (after_step (constructs step) w)
  refer_nothing e = fails_with (chosen p.value.number (machine_resolution resolutions.Nothing)) (number_of built_in.UnsatisfiedResolutionException) (thrown t p.value.number steps w behind (constructs step) (number_of built_in.UnsatisfiedResolutionException)) (resolved e)

  pub refer_many : t.resolve point ≡ machine_resolution resolutions.Many
      → MovesTo t (tasks.Providing p) w (nexts.Needs (tasks.Start (calls.Release p.value.number)) (frames.Discarding p.value.number (number_of built_in.AmbiguousResolutionException))) (after_step (constructs step) w)
  refer_many e = fails_with (chosen p.value.number (machine_resolution resolutions.Many)) (number_of built_in.AmbiguousResolutionException) (thrown t p.value.number steps w behind (constructs step) (number_of built_in.AmbiguousResolutionException)) (resolved e)

  module _ (i : ℕ) (e : t.resolve point ≡ machine_resolution (resolutions.One i)) where
    resolved_to : {x : Option Bean} → t.bean i ≡ x
        → next_stop t (with_step (step_before t p.value.component p.value.left)) w ≡ next_stop t (within t p.value.number steps w (constructs step) (referred p.value.number i x >>= behind)) w
    resolved_to f =
        resolved e ∙ found t p.value.number steps w behind (constructs step) i
        ∙ ap (λ x. next_stop t (within t p.value.number steps w (constructs step) (referred p.value.number i x >>= behind)) w) f

    pub refer_missing : option_map head_of (t.bean i) ≡ None
        → MovesTo t (tasks.Providing p) w (nexts.Needs (tasks.Start (calls.Release p.value.number)) (frames.Discarding p.value.number (number_of built_in.IllegalStateException))) (after_step (constructs step) w)
    refer_missing f =
        fails_with (referred p.value.number i None) (number_of built_in.IllegalStateException) (absent t p.value.number steps w behind (constructs step)) (resolved_to (is_absent (t.bean i) f))

    -- the same parameters, of which one more has this reference
    abbrev pub with_one : Reference → Parameters
    with_one r = record p.value { remaining = p.value.remaining - 1; references = p.value.references ++ r ∷ [] }

    at_step : (r : Reference) → within t p.value.number steps w (constructs step) (behind r)
        ≡ create_from p.value.number (provide_remaining p.value.number (step_before t p.value.component p.value.left) (p.value.remaining - 1) (p.value.references ++ r ∷ [])) steps
    at_step r = ap (λ x. create_from p.value.number (provide_remaining p.value.number x (p.value.remaining - 1) (p.value.references ++ r ∷ [])) steps) (sym the_step)

    pub refer_proxy : (head : BeanHead) → IsThere (t.bean i) head → is_normal head.scope ≡ true → (o : Box Parameters) → o.value ≡ with_one (Proxy i)
        → MovesTo t (tasks.Providing p) w (nexts.Goes (tasks.Providing o)) w
    refer_proxy head f q o g =
        rw g
        (Comes.looks (Comes.within 3
        (ap (λ k. after_steps 2 t k w) starts
        ∙ looked_after t p.value.number steps w behind (constructs step) point
        ∙ ap (λ x. after_steps 1 t (within t p.value.number steps w (constructs step) (chosen p.value.number x >>= behind)) w) e
        ∙ found_after t p.value.number steps w behind (constructs step) i
        ∙ ap (λ x. (within t p.value.number steps w (constructs step) (referred p.value.number i x >>= behind), w)) f.there
        ∙ ap (λ (y : BeanHead). (within t p.value.number steps w (constructs step) (by_scope p.value.number i (is_normal y.scope) >>= behind), w)) f.headed
        ∙ ap (λ y. (within t p.value.number steps w (constructs step) (by_scope p.value.number i y >>= behind), w)) q
        ∙ ap (λ k. (k, w)) (at_step (Proxy i)))))

    pub refer_dependent : (head : BeanHead) → IsThere (t.bean i) head → is_normal head.scope ≡ false → (o : Box Parameters) → o.value ≡ record p.value { remaining = p.value.remaining - 1 }
        → MovesTo t (tasks.Providing p) w (nexts.Needs (tasks.Start (calls.Create i (owners.Instance p.value.number))) (frames.Providing o)) w
    refer_dependent head f q o g =
        rw g
        (Comes.awaits
        (resolved_to f.there
        ∙ ap (λ (y : BeanHead). next_stop t (within t p.value.number steps w (constructs step) (by_scope p.value.number i (is_normal y.scope) >>= behind)) w) f.headed
        ∙ ap (λ y. next_stop t (within t p.value.number steps w (constructs step) (by_scope p.value.number i y >>= behind)) w) q
        ∙ asks t p.value.number steps w behind (constructs step) i)
        (λ c u. Comes.looks (Comes.within 0
        (ap (λ x. (create_from p.value.number (provide_made p.value.number x (p.value.remaining - 1) p.value.references c) steps, u)) (sym the_step)))))

-- those behind the next one
pub next_parameters : (t : Tables) (p : Parameters) (step : Step) (point : Asked) → IsNextPoint t p step point → HasParameters step → AreParameters t p
next_parameters t p step point h has = record { step = step; is = h.of_step; has = has }

-- ---- all parameters have theirs

module _ (t : Tables) (p : Box Parameters) (step : Step) (w : World) (h : IsStepOf t p.value step) (all : p.value.remaining ≡ 0) where
  abbrev left_steps : List Step
  left_steps = last_of p.value.left (plan_at t p.value.component)

  abbrev left_to_take : Option Step → ℕ → Prog Given
  left_to_take x n = create_from p.value.number (provide_remaining p.value.number x n p.value.references) left_steps

  taken_is : left_to_take (step_before t p.value.component p.value.left) p.value.remaining
      ≡ create_from p.value.number (end_construction (constructs step) (take_in p.value.number step p.value.references)) left_steps
  taken_is =
      ap (λ x. left_to_take x p.value.remaining) (ap top_of h.stands)
      ∙ ap (λ n. left_to_take (Some step) n) all
      ∙ ap (λ points. create_from p.value.number (end_construction (constructs step) (resolve_points points (owners.Instance p.value.number) >>= taking p.value.number (Some step) p.value.references)) left_steps) (none_left (points_in step))
      ∙ ap (λ rs. create_from p.value.number (end_construction (constructs step) (take_in p.value.number step rs)) left_steps) (append-nil p.value.references)

-- the construct chain runs
pub construct_taken : (t : Tables) (p : Box Parameters) (points : List Asked) (l : Lifecycle) (w : World) {chain : List ℕ} → IsStepOf t p.value (Step.Construct points l) → p.value.remaining ≡ 0 → chain ≡ l.chain
    → MovesTo t (tasks.Providing p) w (nexts.Needs (tasks.Start (calls.Rest chain)) (frames.Constructing p.value.number p.value.component p.value.left)) (after_change (Change.Provide p.value.references) w)
construct_taken t p points l w h all same =
    rw same
    (Comes.awaits
    (ap (λ k. next_stop t k w) (taken_is t p (Step.Construct points l) w h all))
    (λ c u. Comes.looks (Comes.within 0 refl)))

-- its body is that of an initializer
initializer_body : (t : Tables) (p : Parameters) (code : Code) (points : List Asked) {body : ℕ} → IsStepOf t p (Step.Initialize code points) → body ≡ code.body → IsInitializerBody t body
initializer_body t p code points h e =
    let found = first_left (plan_at t p.component) (p.left + 1) (omega arith) (omega (arith, h.left)) h.stands in
    record { component = p.component; at = length (plan_at t p.component) - (p.left + 1); code = code; points = points; stands = found; body_is = sym e }

-- the initializer runs
pub initializer_taken : (t : Tables) (p : Box Parameters) (code : Code) (points : List Asked) (w : World) (next : Next) → IsStepOf t p.value (Step.Initialize code points) → p.value.remaining ≡ 0
    → RunsInitializer p.value code next → MovesTo t (tasks.Providing p) w next w
initializer_taken t p code points w next h all r =
    rw r.next_is
    (Comes.awaits
    (ap (λ k. next_stop t k w) (taken_is t p (Step.Initialize code points) w h all)
    ∙ ap (λ x. (nested (machine.Body x) (λ c. create_from p.value.number (complete c) (last_of p.value.left (plan_at t p.value.component))), w)) (sym r.is))
    (λ c u. Comes.looks (Comes.within 0 refl)))

pub takes_initializer : (t : Tables) (p : Box Parameters) (code : Code) (points : List Asked) (w : World) → IsStepOf t p.value (Step.Initialize code points) → p.value.remaining ≡ 0
    → (next : Next) → RunsInitializer p.value code next → Moves t (tasks.Providing p) w next w
takes_initializer t p code points w h all next r =
    record {
      leads = initializer_taken t p code points w next h all r;
      lowers = rw r.next_is (omega arith);
      known = λ i. rw r.next_is (of_initializer (initializer_body t p.value code points h (rw r.is refl)), omega (arith, h.left));
      invoked = λ i. i;
      quiet = rw r.next_is tt;
    }

-- ---- a step with parameters begins

module _ (t : Tables) (n : ℕ) (b : Component) (left more : ℕ) (w : World) where
  abbrev others : List Step
  others = last_of left (plan_at t b)

  -- the parameters at the start of a step
  abbrev pub fresh : ℕ → Parameters
  fresh count = record { number = n; component = b; left = left; remaining = count; references = [] }

  pub initializer_begins : (code : Code) (points : List Asked) (o : Box Parameters) → last_of more (plan_at t b) ≡ Step.Initialize code points ∷ others
      → step_before t b left ≡ Some (Step.Initialize code points) → o.value ≡ fresh (length points)
      → MovesTo t (tasks.Creating n b more) w (nexts.Goes (tasks.Providing o)) w
  initializer_begins code points o stands before e =
      rw e
      (Comes.looks (Comes.within 1
      (ap (λ xs. (create_on n xs, w)) stands
      ∙ ap (λ k. (k, w)) (steps_first n (Step.Initialize code points) others)
      ∙ ap (λ ps. (create_from n (resolve_points ps (owners.Instance n) >>= taking n (Some (Step.Initialize code points)) []) others, w)) (all_left points (length points) refl)
      ∙ ap (λ x. (create_from n (provide_remaining n x (length points) []) others, w)) (sym before))))

  constructing : (points : List Asked) (l : Lifecycle)
      → finally (resolve_points points (owners.Instance n) >>= (λ rs. alter (Change.Provide rs)) >>= λ _. run_construction l) (alter Change.Exit)
      ≡ end_construction true (resolve_points points (owners.Instance n) >>= taking n (Some (Step.Construct points l)) [])
  constructing points l = ap (λ p. finally p (alter Change.Exit)) (bind_after (resolve_points points (owners.Instance n)) (λ rs. alter (Change.Provide rs)) (λ _. run_construction l))

  pub construction_begins : (points : List Asked) (l : Lifecycle) (o : Box Parameters) {i : Invocation} → last_of more (plan_at t b) ≡ Step.Construct points l ∷ others
      → step_before t b left ≡ Some (Step.Construct points l) → o.value ≡ fresh (length points) → i ≡ invocation_at_start n roles.AroundConstruct l.callbacks []
      → MovesTo t (tasks.Creating n b more) w (nexts.Goes (tasks.Providing o)) (after_change (Change.Enter i) w)
  construction_begins points l o stands before e q =
      rw (e, q)
      (Comes.looks (Comes.within 2
      (ap (λ xs. after_steps 1 t (create_on n xs) w) stands
      ∙ ap (λ k. after_steps 1 t k w) (steps_first n (Step.Construct points l) others)
      ∙ ap (λ k. (create_from n k others, after_change (Change.Enter (invocation_at_start n roles.AroundConstruct l.callbacks [])) w)) (constructing points l)
      ∙ ap (λ ps. (create_from n (end_construction true (resolve_points ps (owners.Instance n) >>= taking n (Some (Step.Construct points l)) [])) others, after_change (Change.Enter (invocation_at_start n roles.AroundConstruct l.callbacks [])) w)) (all_left points (length points) refl)
      ∙ ap (λ x. (create_from n (provide_remaining n x (length points) []) others, after_change (Change.Enter (invocation_at_start n roles.AroundConstruct l.callbacks [])) w)) (sym before))))

-- as many parameters as points
pub told_start : {n : ℕ} {b : Component} {left : ℕ} {o : Parameters} (points : List CodePoint) → o ≡ record { number = n; component = b; left = left; remaining = length points; references = [] }
    → o ≡ record { number = n; component = b; left = left; remaining = length (map point_told points); references = [] }
told_start points e = rw (told_length points) e

pub initializer_parameters : (t : Tables) (n : ℕ) (b : Component) (left : ℕ) (code : Code) (points : List CodePoint) {o : Parameters}
    → IsNextStep t b left (Step.Initialize code (map point_told points)) → left < length (plan_at t b) → o ≡ record { number = n; component = b; left = left; remaining = length points; references = [] } → AreParameters t o
initializer_parameters t n b left code points next few e =
    rw e (record { step = Step.Initialize code (map point_told points); is = record { stands = next; left = few; remaining = let n = told_length points in omega (arith, n) }; has = tt })

pub construction_parameters : (t : Tables) (n : ℕ) (b : Component) (left : ℕ) (points : List CodePoint) (l : Lifecycle) {o : Parameters}
    → IsNextStep t b left (Step.Construct (map point_told points) l) → left < length (plan_at t b) → o ≡ record { number = n; component = b; left = left; remaining = length points; references = [] } → AreParameters t o
construction_parameters t n b left points l next few e =
    rw e (record { step = Step.Construct (map point_told points) l; is = record { stands = next; left = few; remaining = let n = told_length points in omega (arith, n) }; has = tt })

-- ---- what was made for a parameter

module _ (t : Tables) (p : Box Parameters) (w : World) where
  pub provided_leads : (g : CodeGiven) (o : Box Parameters) → o.value ≡ record p.value { references = p.value.references ++ direct_reference (given_of g) ∷ [] }
      → WaitsTo t (frames.Providing p) (completions.Gave g) w (nexts.Goes (tasks.Providing o)) w
  provided_leads g o e = rw e (Comes.looks (Comes.within 1 refl))

  pub provided_threw : (step : Step) (x : Name) → IsStepOf t p.value step
      → WaitsTo t (frames.Providing p) (completions.Threw x) w (nexts.Needs (tasks.Start (calls.Release p.value.number)) (frames.Discarding p.value.number x)) (after_step (constructs step) w)
  provided_threw step x h =
      Comes.same
      (ap (λ s. next_stop t (create_from p.value.number (provide_made p.value.number s p.value.remaining p.value.references (Threw x)) (last_of p.value.left (plan_at t p.value.component))) w) (ap top_of h.stands)
      ∙ thrown t p.value.number (last_of p.value.left (plan_at t p.value.component)) w (λ r. provide_behind p.value.number (Some step) p.value.remaining (p.value.references ++ r ∷ [])) (constructs step) x
      ∙ failing t p.value.number (last_of p.value.left (plan_at t p.value.component)) w (constructs step) x)

-- ---- the end of a construct chain

module _ (t : Tables) (n : ℕ) (b : Component) (left : ℕ) (w : World) where
  pub constructed_threw : (x : Name) → WaitsTo t (frames.Constructing n b left) (completions.Threw x) w (nexts.Needs (tasks.Start (calls.Release n)) (frames.Discarding n x)) (after_change Change.Exit w)
  constructed_threw x = Comes.same (failing t n (last_of left (plan_at t b)) w true x)

  -- by the innermost invocation
  abbrev ends_with : Option Invocation → Prog Given
  ends_with None = throw (number_of built_in.IllegalStateException)
  ends_with (Some v) = require v.completed built_in.CreationException >> finish

  by_top : (vs : List Invocation)
      → next_stop t (create_from n (finally (machine.top vs >>= λ v. require v.completed built_in.CreationException >> finish) (alter Change.Exit)) (last_of left (plan_at t b))) w
      ≡ next_stop t (create_from n (finally (ends_with (top_of vs)) (alter Change.Exit)) (last_of left (plan_at t b))) w
  by_top [] = refl
  by_top (v ∷ vs) = refl

  by_top_after : (vs : List Invocation) (v : Invocation) → top_of vs ≡ Some v → v.completed ≡ true
      → after_steps 1 t (create_from n (finally (machine.top vs >>= λ v. require v.completed built_in.CreationException >> finish) (alter Change.Exit)) (last_of left (plan_at t b))) w
      ≡ (create_on n (last_of left (plan_at t b)), after_change Change.Exit w)
  by_top_after [] v e f = absurd (cc)
  by_top_after (x ∷ vs) v e f =
      let q : x ≡ v = cc in
      ap (λ (y : Invocation). after_steps 1 t (create_from n (finally (require y.completed built_in.CreationException >> finish) (alter Change.Exit)) (last_of left (plan_at t b))) w) q
      ∙ ap (λ y. after_steps 1 t (create_from n (finally (require y built_in.CreationException >> finish) (alter Change.Exit)) (last_of left (plan_at t b))) w) f

  pub constructed_missing : (g : CodeGiven) → top_of w.invocations ≡ None
      → WaitsTo t (frames.Constructing n b left) (completions.Gave g) w (nexts.Needs (tasks.Start (calls.Release n)) (frames.Discarding n (number_of built_in.IllegalStateException))) (after_change Change.Exit w)
  constructed_missing g e =
      Comes.same
      (by_top w.invocations
      ∙ ap (λ x. next_stop t (create_from n (finally (ends_with x) (alter Change.Exit)) (last_of left (plan_at t b))) w) e
      ∙ failing t n (last_of left (plan_at t b)) w true (number_of built_in.IllegalStateException))

  pub constructed_short : (g : CodeGiven) (v : Invocation) → top_of w.invocations ≡ Some v → v.completed ≡ false
      → WaitsTo t (frames.Constructing n b left) (completions.Gave g) w (nexts.Needs (tasks.Start (calls.Release n)) (frames.Discarding n (number_of built_in.CreationException))) (after_change Change.Exit w)
  constructed_short g v e f =
      Comes.same
      (by_top w.invocations
      ∙ ap (λ x. next_stop t (create_from n (finally (ends_with x) (alter Change.Exit)) (last_of left (plan_at t b))) w) e
      ∙ ap (λ y. next_stop t (create_from n (finally (require y built_in.CreationException >> finish) (alter Change.Exit)) (last_of left (plan_at t b))) w) f
      ∙ failing t n (last_of left (plan_at t b)) w true (number_of built_in.CreationException))

  pub constructed_leads : (g : CodeGiven) (v : Invocation) → top_of w.invocations ≡ Some v → v.completed ≡ true
      → WaitsTo t (frames.Constructing n b left) (completions.Gave g) w (nexts.Goes (tasks.Creating n b left)) (after_change Change.Exit w)
  constructed_leads g v e f = Comes.looks (Comes.within 3 (by_top_after w.invocations v e f))
