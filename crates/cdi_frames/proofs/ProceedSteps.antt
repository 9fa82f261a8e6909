-- The steps of bodies that proceed are those of the machine.
use Rattle.std.proofs.Common.{ℕ, ◌≡◌, ◌∷◌, [], List, refl, sym, ◌∙◌, ap, Option, Some, None, Bool, true, false}
use Rattle.std.proofs.Math.Path.{fun_ext}
use Rattle.std.specs.Prelude.{not, ◌||◌}
use Rattle.std.specs.List.{AllByRecursion}
use Rattle.std.specs.Global.{Box}
use Rattle.cdi_base.specs.declared.value.Value.{Value}
use Rattle.cdi_base.specs.declared.act.Act.TheVariants as acts
use Rattle.cdi_base.specs.declared.built_in.BuiltIn.{BuiltIn}
use Rattle.cdi_base.specs.declared.built_in.BuiltIn.TheVariants as built_in
use Rattle.cdi_base.specs.BuiltIn.{number_of}
use Rattle.cdi_machine.specs.Tables.{Tables}
use Rattle.cdi_machine.specs.World.{World, Invocation, on_top}
use Rattle.cdi_machine.specs.Programs as machine
use Rattle.cdi_machine.specs.Programs.{Given, Completion, Gave, Threw, Prog, nested, handle, attempt, require, top, complete, call, ◌>>=◌, ◌>>◌}
use Rattle.cdi_machine.specs.Bodies.{perform, fits, repeats, replace_parameters}
use Rattle.cdi_host.specs.Asked.{top_of}
use Rattle.cdi_steps.specs.Known.{AllInvoked, HasKnownBodies}
use Rattle.cdi_steps.specs.Meanings.{go_on_with}
use Rattle.cdi_steps.specs.Leads.{next_stop}
use Rattle.cdi_steps.proofs.Ways.{StopsAs}
use Rattle.cdi_steps.specs.declared.task.Call.TheVariants as calls
use Rattle.cdi_steps.specs.declared.task.Task.TheVariants as tasks
use Rattle.cdi_steps.specs.declared.task.Frame.TheVariants as frames
use Rattle.cdi_steps.specs.declared.task.Next.TheVariants as nexts
use Rattle.cdi_frames.specs.Proceeding.{having_tried, refusal_for, refusal_in, with_replaced}

module _ (t : Tables) (r : machine.Running) (args : Option (List Value)) where
  -- what is left of the act behind the look at the invocation
  abbrev proceeding : Bool → Bool → Prog Given
  proceeding x y =
      attempt (require x built_in.IllegalArgumentException >>= λ _. require y built_in.IllegalStateException >>= λ _. replace_parameters args >>= λ _. call (machine.Rest r.rest))
      >>= λ c. go_on_with (having_tried r args) c

  abbrev refused : BuiltIn → Prog Given
  refused x = go_on_with (having_tried r args) (machine.Threw (number_of x))

  abbrev with_invocation : Option Invocation → Prog Given
  with_invocation None = refused built_in.IllegalStateException
  with_invocation (Some v) = proceeding (fits v.parameters args) (repeats v.role || not r.proceeded)

  by_top : (vs : List Invocation) (w : World)
      → next_stop t (attempt (top vs >>= λ v. require (fits v.parameters args) built_in.IllegalArgumentException >>= λ _. require (repeats v.role || not r.proceeded) built_in.IllegalStateException >>= λ _. replace_parameters args >>= λ _. call (machine.Rest r.rest)) >>= λ c. go_on_with (having_tried r args) c) w
      ≡ next_stop t (with_invocation (top_of vs)) w
  by_top [] w = refl
  by_top (v ∷ vs) w = refl

  by_refusal : (x y : Bool) (e : BuiltIn) (w : World) → refusal_for x y ≡ Some e → next_stop t (proceeding x y) w ≡ next_stop t (refused e) w
  by_refusal false y e w h = let q : built_in.IllegalArgumentException ≡ e = cc in ap (λ z. next_stop t (refused z) w) q
  by_refusal true false e w h = let q : built_in.IllegalStateException ≡ e = cc in ap (λ z. next_stop t (refused z) w) q
  by_refusal true true e w h = absurd (cc)

  by_invocation : (x : Option Invocation) (e : BuiltIn) (w : World) → refusal_in r args x ≡ Some e → next_stop t (with_invocation x) w ≡ next_stop t (refused e) w
  by_invocation None e w h = let q : built_in.IllegalStateException ≡ e = cc in ap (λ z. next_stop t (refused z) w) q
  by_invocation (Some v) e w h = by_refusal (fits v.parameters args) (repeats v.role || not r.proceeded) e w h

  -- it may not
  pub proceed_refused : (e : BuiltIn) (w : World) → refusal_in r args (top_of w.invocations) ≡ Some e
      → next_stop t (perform r (acts.Proceed args)) w ≡ next_stop t (refused e) w
  proceed_refused e w h = by_top w.invocations w ∙ by_invocation (top_of w.invocations) e w h

  allowed : (x y : Bool) (w : World) → refusal_for x y ≡ None
      → next_stop t (proceeding x y) w ≡ next_stop t (proceeding true true) w
  allowed false y w h = absurd (cc)
  allowed true false w h = absurd (cc)
  allowed true true w h = refl

  by_allowed : (x : Option Invocation) (w : World) → refusal_in r args x ≡ None
      → next_stop t (with_invocation x) w ≡ next_stop t (proceeding true true) w
  by_allowed None w h = absurd (cc)
  by_allowed (Some v) w h = allowed (fits v.parameters args) (repeats v.role || not r.proceeded) w h

answers_with : (r : machine.Running) (c : Completion Given) → handle (attempt (complete c)) (go_on_with r) machine.throw ≡ go_on_with r c
answers_with r (Gave g) = refl
answers_with r (Threw x) = refl

module _ (t : Tables) (r : machine.Running) where
  goes_on : (args : Option (List Value)) (w : World)
      → next_stop t (proceeding t r args true true) w
      ≡ (nested (machine.Rest r.rest) (λ c. handle (attempt (complete c)) (go_on_with (having_tried r args)) machine.throw), with_replaced args w)
  goes_on None w = refl
  goes_on (Some vs) w = refl

  -- it does
  pub proceed_leads : (args : Option (List Value)) (b : Box machine.Running) {chain : List ℕ} (w : World) → refusal_in r args (top_of w.invocations) ≡ None
      → b.value ≡ having_tried r args → chain ≡ r.rest
      → StopsAs t (perform r (acts.Proceed args)) w (nexts.Needs (tasks.Start (calls.Rest chain)) (frames.Answering b)) (with_replaced args w)
  proceed_leads args b w h z q =
      rw q
      (by_top t r args w.invocations w
      ∙ by_allowed t r args (top_of w.invocations) w h
      ∙ goes_on args w
      ∙ ap (λ k. (nested (machine.Rest r.rest) k, with_replaced args w)) (fun_ext (answers_with (having_tried r args)))
      ∙ ap (λ x. (nested (machine.Rest r.rest) (go_on_with x), with_replaced args w)) (sym z))

-- the invocations' bodies stay known
pub replaced_invoked : {t : Tables} (args : Option (List Value)) (w : World) → AllInvoked t w → AllInvoked t (with_replaced args w)
replaced_invoked None w h = h
replaced_invoked {t} (Some vs) w h = record { all = by w.invocations h.all }
  where
    by : (xs : List Invocation) → AllByRecursion (HasKnownBodies t) xs → AllByRecursion (HasKnownBodies t) (on_top (λ i. record i { parameters = vs }) xs)
    by [] h = tt
    by (x ∷ xs) h = (record { bodies = h.0.bodies }, h.1)
