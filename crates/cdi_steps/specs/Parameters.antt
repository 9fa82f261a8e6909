-- Parameters of constructors and initializers: how they get their references, and what takes them.
use Rattle.std.specs.Global.{Box}
use Rattle.std.specs.Prelude.{ℕ, ◌≡◌, ◌<◌, ◌≤◌, ◌+◌, ◌-◌, ◌++◌, length, List, [], ◌∷◌, Option, Some, None, Bool, true, false}
use Rattle.cdi_base.specs.declared.built_in.BuiltIn.TheVariants as built_in
use Rattle.cdi_store.specs.declared.instance.Component.{Component}
use Rattle.cdi_store.specs.declared.instance.Owner.TheVariants as owners
use Rattle.cdi_store.specs.declared.references.Reference.{Reference}
use Rattle.cdi_machine.specs.Words.{Asked}
use Rattle.cdi_machine.specs.Tables.{Tables, Code, Lifecycle, Step}
use Rattle.cdi_machine.specs.World.{World, Change, after_change}
use Rattle.cdi_machine.specs.Programs as machine
use Rattle.cdi_machine.specs.Programs.{Given, Number, Prog, ret, see, handle, finally, complete, call, finish, require, alter, each, invocation, tell_missing, ◌>>=◌, ◌>>◌}
use Rattle.cdi_machine.specs.Contexts.{direct_reference, resolve_points}
use Rattle.cdi_machine.specs.Creation.{create_by, take_step}
use Rattle.cdi_machine.specs.Bodies.{body_at_start}
use Rattle.cdi_host.specs.Asked.{last_of, plan_at, top_of}
use Rattle.cdi_machine.specs.declared.point.Point.{Point as CodePoint}
use Rattle.cdi_machine.specs.declared.step.Step.{Step as CodeStep}
use Rattle.cdi_machine.specs.declared.step.Step.TheVariants as code_steps
use Rattle.cdi_steps.specs.declared.task.Parameters.{Parameters}
use Rattle.cdi_steps.specs.declared.task.Call.TheVariants as calls
use Rattle.cdi_steps.specs.declared.task.Frame.TheVariants as frames
use Rattle.cdi_steps.specs.declared.task.Next.{Next}
use Rattle.cdi_steps.specs.declared.task.Next.TheVariants as nexts
use Rattle.cdi_steps.specs.declared.task.Task.TheVariants as tasks

-- a creation that does this, and then takes these steps
abbrev pub create_from : ℕ → Prog Given → List Step → Prog Given
create_from n p steps = create_by n do
  p
  each steps (take_step n)
  ret (Number n)

-- the step of a component's plan behind which so many are left
abbrev pub step_before : Tables → Component → ℕ → Option Step
step_before t b left = top_of (last_of (left + 1) (plan_at t b))

-- the injection points of its parameters
abbrev pub points_in : Step → List Asked
points_in (Step.Construct points l) = points
points_in (Step.Initialize m points) = points
points_in step = []

abbrev pub points_of : Option Step → List Asked
points_of None = []
points_of (Some step) = points_in step

-- the same points with what they resolve to, as the tables tell them
abbrev pub parameters_of : CodeStep → List CodePoint
parameters_of (code_steps.Construct points l) = points
parameters_of (code_steps.Initialize code points) = points
parameters_of step = []

-- it is the construction, an invocation of its own
abbrev pub constructs : Step → Bool
constructs (Step.Construct points l) = true
constructs step = false

abbrev pub is_construction : Option Step → Bool
is_construction None = false
is_construction (Some step) = constructs step

-- the end of a construct chain, which has to have got through the constructor
abbrev pub check_constructed : machine.Completion Given → Prog Given
check_constructed c = do
  complete c
  v ← invocation
  require v.completed built_in.CreationException
  finish

abbrev pub run_construction : Lifecycle → Prog Given
run_construction l = do
  call (machine.Rest l.chain)
  v ← invocation
  require v.completed built_in.CreationException
  finish

-- what takes the references of all parameters: the construct chain, or the initializer
abbrev pub take_in : ℕ → Step → List Reference → Prog Given
take_in n (Step.Construct points l) rs = do
  alter (Change.Provide rs)
  run_construction l
take_in n (Step.Initialize m points) rs =
    call (machine.Body (body_at_start n m.place m.body [] rs []))
take_in n step rs = tell_missing

abbrev pub take : ℕ → Option Step → List Reference → Prog Given
take n None rs = tell_missing
take n (Some step) rs = take_in n step rs

-- a construction ends with its invocation
abbrev pub end_construction : Bool → Prog Given → Prog Given
end_construction true p = finally p (alter Change.Exit)
end_construction false p = p

-- so many parameters are left without a reference, and get theirs behind these
abbrev pub provide_behind : ℕ → Option Step → ℕ → List Reference → Prog Given
provide_behind n step remaining rs =
    resolve_points (last_of remaining (points_of step)) (owners.Instance n)
    >>= λ others. take n step (rs ++ others)

abbrev pub provide_remaining : ℕ → Option Step → ℕ → List Reference → Prog Given
provide_remaining n step remaining rs =
    end_construction (is_construction step) (provide_behind n step remaining rs)

-- the same, behind one more that was made
abbrev pub provide_made : ℕ → Option Step → ℕ → List Reference → machine.Completion Given
    → Prog Given
provide_made n step remaining rs c =
    end_construction (is_construction step)
    ((complete c >>= λ made. ret (direct_reference made))
    >>= λ r. provide_behind n step remaining (rs ++ r ∷ []))

-- and the creation goes on
abbrev pub carry_on_providing : Parameters → Prog Given
carry_on_providing p =
    see λ t w.
    create_from p.number
    (provide_remaining p.number (step_before t p.component p.left) p.remaining p.references)
    (last_of p.left (plan_at t p.component))

abbrev pub carry_on_provided : Parameters → machine.Completion Given → Prog Given
carry_on_provided p c =
    see λ t w.
    create_from p.number
    (provide_made p.number (step_before t p.component p.left) p.remaining p.references c)
    (last_of p.left (plan_at t p.component))

abbrev pub carry_on_constructing : ℕ → Component → ℕ → machine.Completion Given → Prog Given
carry_on_constructing n b left c =
    see λ t w.
    create_from n (end_construction true (check_constructed c)) (last_of left (plan_at t b))

-- ---- how the engine goes through them

-- the step of the parameters, the last of which have no reference yet
pub record IsStepOf (t : Tables) (p : Parameters) (step : Step) : Type 0 where
  pub stands : last_of (p.left + 1) (plan_at t p.component)
      ≡ step ∷ last_of p.left (plan_at t p.component)
  pub left : p.left < length (plan_at t p.component)
  pub remaining : p.remaining ≤ length (points_in step)

-- and the injection point of the first of these
pub record IsNextPoint (t : Tables) (p : Parameters) (step : Step) (point : Asked) : Type 0 where
  pub of_step : IsStepOf t p step
  pub some : 0 < p.remaining
  pub next : last_of p.remaining (points_in step) ≡ point ∷ last_of (p.remaining - 1) (points_in step)

-- a construction that is over has no invocation any more
abbrev pub after_step : Bool → World → World
after_step true w = after_change Change.Exit w
after_step false w = w

-- the initializer runs with these references
pub record RunsInitializer (p : Parameters) (code : Code) (next : Next) : Type 0 where
  pub running : Box machine.Running
  pub is : running.value ≡ body_at_start p.number code.place code.body [] p.references []
  pub next_is :
      next
      ≡ nexts.Needs (tasks.Start (calls.Body running))
      (frames.Stepping p.number p.component p.left)
