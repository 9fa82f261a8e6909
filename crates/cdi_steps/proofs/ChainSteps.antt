-- The steps of chains of interceptors are those of the machine.
use Rattle.std.proofs.Common.{ℕ, ◌≡◌, ◌∷◌, [], List, refl, sym, ◌∙◌, ap, Option, Some, None, Bool, true, false}
use Rattle.std.specs.Prelude.{option_and_then, option_map}
use Rattle.std.specs.Global.{Box}
use Rattle.cdi_base.specs.declared.place.InterceptorMethod.{InterceptorMethod}
use Rattle.cdi_base.specs.declared.place.Place.{Place}
use Rattle.cdi_base.specs.declared.place.Place.TheVariants as places
use Rattle.cdi_base.specs.declared.built_in.BuiltIn.TheVariants as built_in
use Rattle.cdi_base.specs.BuiltIn.{number_of}
use Rattle.cdi_store.specs.declared.instance.Instance.{Instance}
use Rattle.cdi_machine.specs.Tables.{Tables, Code, Interceptor}
use Rattle.cdi_machine.specs.World.{World, Invocation, instance_at}
use Rattle.cdi_machine.specs.Programs as machine
use Rattle.cdi_machine.specs.Programs.{Given, Prog, ret, see, nested, handle, tell_missing, require_present, complete, call, top, instance, interceptor_at, ◌>>=◌, ◌>>◌}
use Rattle.cdi_machine.specs.Bodies.{run_rest, given_by, body_at_start, interceptor_of, first_of, is_of}
use Rattle.cdi_host.specs.Asked.{top_of, code_in, interceptor_code}
use Rattle.cdi_steps.specs.Chains.{first_in, interceptor_in}
use Rattle.cdi_steps.specs.Known.{IsKnownBody, of_interceptor}
use Rattle.cdi_steps.specs.Leads.{next_stop, Comes}
use Rattle.cdi_steps.proofs.Ways.{MovesTo}
use Rattle.cdi_steps.specs.declared.task.Call.TheVariants as calls
use Rattle.cdi_steps.specs.declared.task.Completion.TheVariants as completions
use Rattle.cdi_steps.specs.declared.task.Outcome.TheVariants as outcomes
use Rattle.cdi_steps.specs.declared.task.Task.TheVariants as tasks
use Rattle.cdi_steps.specs.declared.task.Frame.TheVariants as frames
use Rattle.cdi_steps.specs.declared.task.Next.TheVariants as nexts

module _ (t : Tables) (i : ℕ) (chain : List ℕ) where
  -- the method, on an instance of the interceptor
  abbrev run_method : Invocation → Code → ℕ → Prog Given
  run_method v code n = do
    g ← call (machine.Body (body_at_start n code.place code.body v.parameters [] chain))
    ret (given_by v.role g)

  -- what is left behind each of the look-ups
  abbrev with_instance : Invocation → Code → Option ℕ → Prog Given
  with_instance v code x = require_present x >>= λ n. run_method v code n

  abbrev with_code : Invocation → Option Code → Prog Given
  with_code v x = require_present x >>= λ code. interceptor_of v.target i >>= λ n. run_method v code n

  abbrev with_invocation : Option Invocation → Prog Given
  with_invocation None = tell_missing
  with_invocation (Some v) = do
    interceptor ← interceptor_at i
    code ← require_present (interceptor.body v.role)
    n ← interceptor_of v.target i
    g ← call (machine.Body (body_at_start n (places.Interceptor interceptor.name v.role) code v.parameters [] chain))
    ret (given_by v.role g)

  by_top : (vs : List Invocation) (w : World)
      → next_stop t (top vs >>= λ v. with_invocation (Some v)) w ≡ next_stop t (with_invocation (top_of vs)) w
  by_top [] w = refl
  by_top (v ∷ vs) w = refl

  by_body : (v : Invocation) (place : Place) (x : Option ℕ) (w : World)
      → next_stop t (require_present x >>= λ b. interceptor_of v.target i >>= λ n. run_method v (record { place = place; body = b }) n) w
      ≡ next_stop t (with_code v (option_map (λ b. record { place = place; body = b }) x)) w
  by_body v place None w = refl
  by_body v place (Some b) w = refl

  by_interceptor : (v : Invocation) (x : Option Interceptor) (w : World)
      → next_stop t (require_present x >>= λ j. require_present (j.body v.role) >>= λ b. interceptor_of v.target i >>= λ n. run_method v (record { place = places.Interceptor j.name v.role; body = b }) n) w
      ≡ next_stop t (with_code v (option_and_then (code_in v.role) x)) w
  by_interceptor v None w = refl
  by_interceptor v (Some j) w = by_body v (places.Interceptor j.name v.role) (j.body v.role) w

  by_first : (v : Invocation) (code : Code) (ns : List ℕ) (u w : World)
      → next_stop t (first_of u i ns >>= λ n. run_method v code n) w ≡ next_stop t (with_instance v code (first_in u i ns)) w
  by_first v code [] u w = refl
  by_first v code (n ∷ ns) u w = by (is_of i (instance_at u n)) (by_first v code ns u w)
    where
      by : (b : Bool)
          → next_stop t (first_of u i ns >>= λ n. run_method v code n) w ≡ next_stop t (with_instance v code (first_in u i ns)) w
          → next_stop t (elim b as (λ _. Prog ℕ) [ true ↦ ret n | false ↦ first_of u i ns ] >>= λ n. run_method v code n) w
          ≡ next_stop t (with_instance v code (elim b as (λ _. Option ℕ) [ true ↦ Some n | false ↦ first_in u i ns ])) w
      by true e = refl
      by false e = e

  by_instance : (v : Invocation) (code : Code) (x : Option Instance) (w : World)
      → next_stop t ((require_present x >>= λ o. see λ t w. first_of w i o.dependents) >>= λ n. run_method v code n) w
      ≡ next_stop t (with_instance v code (interceptor_in w i x)) w
  by_instance v code None w = refl
  by_instance v code (Some o) w = by_first v code o.dependents w w

  rest_settled : {x : Option Invocation} (w : World) → top_of w.invocations ≡ x
      → next_stop t (run_rest (i ∷ chain)) w ≡ next_stop t (with_invocation x) w
  rest_settled w e = by_top w.invocations w ∙ ap (λ x. next_stop t (with_invocation x) w) e

  pub no_invocation : (w : World) → top_of w.invocations ≡ None
      → MovesTo t (tasks.Start (calls.Rest (i ∷ chain))) w (nexts.Finished (outcomes.Ends (completions.Threw (number_of built_in.IllegalStateException)))) w
  no_invocation w e = Comes.same (rest_settled w e)

  module _ (v : Invocation) (w : World) (under : top_of w.invocations ≡ Some v) where
    code_settled : {x : Option Code} → interceptor_code t i v.role ≡ x
        → next_stop t (run_rest (i ∷ chain)) w ≡ next_stop t (with_code v x) w
    code_settled e = rest_settled w under ∙ by_interceptor v (t.interceptor i) w ∙ ap (λ x. next_stop t (with_code v x) w) e

    pub no_method : interceptor_code t i v.role ≡ None
        → MovesTo t (tasks.Start (calls.Rest (i ∷ chain))) w (nexts.Finished (outcomes.Ends (completions.Threw (number_of built_in.IllegalStateException)))) w
    no_method e = Comes.same (code_settled e)

    module _ (code : Code) (has : interceptor_code t i v.role ≡ Some code) where
      instance_settled : {x : Option ℕ} → interceptor_in w i (instance_at w v.target) ≡ x
          → next_stop t (run_rest (i ∷ chain)) w ≡ next_stop t (with_instance v code x) w
      instance_settled e = code_settled has ∙ by_instance v code (instance_at w v.target) w ∙ ap (λ x. next_stop t (with_instance v code x) w) e

      pub no_instance : interceptor_in w i (instance_at w v.target) ≡ None
          → MovesTo t (tasks.Start (calls.Rest (i ∷ chain))) w (nexts.Finished (outcomes.Ends (completions.Threw (number_of built_in.IllegalStateException)))) w
      no_instance e = Comes.same (instance_settled e)

      pub run_first : (n : ℕ) (b : Box machine.Running) (role : InterceptorMethod) → interceptor_in w i (instance_at w v.target) ≡ Some n → role ≡ v.role
          → b.value ≡ body_at_start n code.place code.body v.parameters [] chain
          → MovesTo t (tasks.Start (calls.Rest (i ∷ chain))) w (nexts.Needs (tasks.Start (calls.Body b)) (frames.Intercepted role)) w
      run_first n b role e q z =
          Comes.same
          (instance_settled e
          ∙ ap (λ x. (nested (machine.Body x) (λ c. complete c >>= λ g. ret (given_by v.role g)), w)) (sym z)
          ∙ ap (λ x. (nested (machine.Body b.value) (λ c. complete c >>= λ g. ret (given_by x g)), w)) (sym q))

-- the method of an interceptor is known
pub method_known : (t : Tables) (i : ℕ) (role : InterceptorMethod) (code : Code) {body : ℕ} → interceptor_code t i role ≡ Some code → code.body ≡ body → IsKnownBody t body
method_known t i role code e b = of_interceptor (record { interceptor = i; role = role; code = code; found = e; body_is = b })
