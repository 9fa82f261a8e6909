-- What frames do once what they wait for has ended is what the machine does.
use Rattle.std.proofs.Common.{ℕ, ◌≡◌, Bool, refl, sym}
use Rattle.std.specs.Global.{Box}
use Rattle.cdi_base.specs.declared.value.Value.TheVariants as values
use Rattle.cdi_base.specs.declared.place.InterceptorMethod.{InterceptorMethod}
use Rattle.cdi_base.specs.declared.place.InterceptorMethod.TheVariants as roles
use Rattle.cdi_base.specs.declared.reply.Cause.{Cause}
use Rattle.cdi_store.specs.declared.instance.Component.{Component}
use Rattle.cdi_store.specs.declared.instance.Context.{Context}
use Rattle.cdi_machine.specs.Words.{Name}
use Rattle.cdi_machine.specs.Tables.{Tables}
use Rattle.cdi_machine.specs.Programs as machine
use Rattle.cdi_machine.specs.World.{World, Change, after_change}
use Rattle.cdi_steps.specs.Words.{given_at_end}
use Rattle.cdi_steps.specs.Meanings.{after}
use Rattle.cdi_steps.specs.Leads.{Comes}
use Rattle.cdi_steps.proofs.Ways.{ComesTo, WaitsTo}
use Rattle.cdi_steps.specs.declared.task.AfterClose.{AfterClose}
use Rattle.cdi_steps.specs.declared.task.Call.TheVariants as calls
use Rattle.cdi_steps.specs.declared.task.Closing.{Closing}
use Rattle.cdi_steps.specs.declared.task.Completion.{Completion}
use Rattle.cdi_steps.specs.declared.task.Completion.TheVariants as completions
use Rattle.cdi_steps.specs.declared.task.Disposal.{Disposal}
use Rattle.cdi_steps.specs.declared.task.Given.{Given}
use Rattle.cdi_steps.specs.declared.task.Notification.{Notification}
use Rattle.cdi_steps.specs.declared.task.Given.TheVariants as givens
use Rattle.cdi_steps.specs.declared.task.Parameters.{Parameters}
use Rattle.cdi_steps.specs.declared.task.Outcome.TheVariants as outcomes
use Rattle.cdi_steps.specs.declared.task.Task.TheVariants as tasks
use Rattle.cdi_steps.specs.declared.task.Frame.{Frame}
use Rattle.cdi_steps.specs.declared.task.Frame.TheVariants as frames
use Rattle.cdi_steps.specs.declared.task.Next.TheVariants as nexts

-- a frame that goes on by itself after a throw is none of these
pub record EndsWithThrow (k : Frame) : Type 0 where
  pub stopping : k ≡ frames.Stopping → ⊥
  pub answering : (r : Box machine.Running) → k ≡ frames.Answering r → ⊥
  pub cleaning_up : (n : ℕ) → k ≡ frames.CleaningUp n → ⊥
  pub exiting : k ≡ frames.Exiting → ⊥
  pub using : k ≡ frames.Using → ⊥
  pub returning : (told : Box Completion) → k ≡ frames.Returning told → ⊥
  pub initializing : k ≡ frames.Initializing → ⊥
  pub opening : k ≡ frames.Opening → ⊥
  pub telling : k ≡ frames.Telling → ⊥
  pub shutting_down : k ≡ frames.ShuttingDown → ⊥
  pub finishing : (closing : Box Closing) → k ≡ frames.Finishing closing → ⊥
  pub closed : (after : AfterClose) → k ≡ frames.Closed after → ⊥
  pub injecting : (n : ℕ) (b : Component) (left : ℕ) (field : Name) → k ≡ frames.Injecting n b left field → ⊥
  pub completing : (n : ℕ) (b : Component) (left : ℕ) → k ≡ frames.Completing n b left → ⊥
  pub stepping : (n : ℕ) (b : Component) (left : ℕ) → k ≡ frames.Stepping n b left → ⊥
  pub finding : (r : Box machine.Running) (lookup : ℕ) → k ≡ frames.Finding r lookup → ⊥
  pub providing : (p : Box Parameters) → k ≡ frames.Providing p → ⊥
  pub producing : (n : ℕ) (normal : Bool) → k ≡ frames.Producing n normal → ⊥
  pub disposing : (d : Box Disposal) → k ≡ frames.Disposing d → ⊥
  pub observing : (others : Box Notification) → k ≡ frames.Observing others → ⊥
  pub constructing : (n : ℕ) (b : Component) (left : ℕ) → k ≡ frames.Constructing n b left → ⊥

module _ (t : Tables) where
  pub cut_leads : (k : Frame) (cause : Cause) (w : World) → ComesTo t (after k (outcomes.Cut cause)) w (nexts.Finished (outcomes.Cut cause)) w
  cut_leads k cause w = Comes.same refl

  -- ---- a chain, a body, an invocation

  pub reached_leads : (role : InterceptorMethod) (g : Given) (w : World)
      → WaitsTo t (frames.AtEnd role) (completions.Gave g) w (nexts.Finished (outcomes.Ends (completions.Gave (given_at_end role g)))) (after_change Change.Reach w)
  reached_leads roles.AroundInvoke g w = Comes.same refl
  reached_leads roles.AroundConstruct g w = Comes.same refl
  reached_leads roles.PostConstruct g w = Comes.same refl
  reached_leads roles.PreDestroy g w = Comes.same refl

  pub intercepted_leads : (role : InterceptorMethod) (g : Given) (w : World)
      → WaitsTo t (frames.Intercepted role) (completions.Gave g) w (nexts.Finished (outcomes.Ends (completions.Gave (given_at_end role g)))) w
  intercepted_leads roles.AroundInvoke g w = Comes.same refl
  intercepted_leads roles.AroundConstruct g w = Comes.same refl
  intercepted_leads roles.PostConstruct g w = Comes.same refl
  intercepted_leads roles.PreDestroy g w = Comes.same refl

  pub stopped_leads : (c : Completion) (w : World)
      → WaitsTo t frames.Stopping c w (nexts.Finished (outcomes.Ends c)) (after_change Change.Stop w)
  stopped_leads (completions.Gave g) w = Comes.same refl
  stopped_leads (completions.Threw x) w = Comes.same refl

  pub exited_leads : (c : Completion) (w : World)
      → WaitsTo t frames.Exiting c w (nexts.Finished (outcomes.Ends c)) (after_change Change.Exit w)
  exited_leads (completions.Gave g) w = Comes.same refl
  exited_leads (completions.Threw x) w = Comes.same refl

  -- ---- destruction

  pub cleaned_up_leads : (n : ℕ) (c : Completion) (w : World)
      → WaitsTo t (frames.CleaningUp n) c w (nexts.Needs (tasks.Start (calls.Release n)) (frames.Releasing n)) (after_change Change.Exit w)
  cleaned_up_leads n c w = Comes.same refl

  pub freeing_leads : (n : ℕ) (g : Given) (w : World)
      → WaitsTo t (frames.Freeing n) (completions.Gave g) w (nexts.Goes (tasks.Start (calls.Release n))) w
  freeing_leads n g w = Comes.same refl

  pub dismissing_leads : (g : Given) (w : World)
      → WaitsTo t frames.Dismissing (completions.Gave g) w (nexts.Goes (tasks.Start calls.Dismiss)) w
  dismissing_leads g w = Comes.same refl

  pub clearing_leads : (context : Context) (g : Given) (w : World)
      → WaitsTo t (frames.Clearing context) (completions.Gave g) w (nexts.Goes (tasks.Start (calls.Clear context))) w
  clearing_leads context g w = Comes.same refl

  -- ---- commands

  pub returned_leads : (told : Box Completion) {c : Completion} (g : Given) (w : World) → c ≡ told.value
      → WaitsTo t (frames.Returning told) (completions.Gave g) w (nexts.Finished (outcomes.Ends c)) (after_change Change.Return w)
  returned_leads told {c = completions.Gave h} g w e = rw (sym e) (Comes.same refl)
  returned_leads told {c = completions.Threw x} g w e = rw (sym e) (Comes.same refl)

  pub threw_at_return : (told : Box Completion) (x : Name) (w : World)
      → WaitsTo t (frames.Returning told) (completions.Threw x) w (nexts.Finished (outcomes.Ends (completions.Threw x))) (after_change Change.Return w)
  threw_at_return told x w = Comes.same refl

  pub told_leads : (c : Completion) (w : World)
      → WaitsTo t frames.Telling c w (nexts.Finished (outcomes.Ends (completions.Gave (givens.Result values.Null)))) w
  told_leads c w = Comes.same refl

  -- these end with what was thrown
  pub threw_leads : (x : Name) (k : Frame) (w : World) → EndsWithThrow k
      → WaitsTo t k (completions.Threw x) w (nexts.Finished (outcomes.Ends (completions.Threw x))) w
  threw_leads x (frames.AtEnd role) w h = Comes.same refl
  threw_leads x (frames.Intercepted role) w h = Comes.same refl
  threw_leads x (frames.Releasing n) w h = Comes.same refl
  threw_leads x (frames.Freeing n) w h = Comes.same refl
  threw_leads x frames.Dismissing w h = Comes.same refl
  threw_leads x (frames.Clearing context) w h = Comes.same refl
  threw_leads x (frames.Reaching purpose) w h = Comes.same refl
  threw_leads x (frames.Borrowing purpose) w h = Comes.same refl
  threw_leads x (frames.Emptying closing) w h = Comes.same refl
  threw_leads x (frames.Discarding n y) w h = Comes.same refl
  threw_leads x (frames.Calling b) w h = Comes.same refl
  threw_leads x (frames.Dropping n) w h = Comes.same refl
  threw_leads x (frames.Received c) w h = Comes.same refl
  threw_leads x (frames.Lent c) w h = Comes.same refl
  threw_leads x (frames.Supplied p) w h = Comes.same refl
  threw_leads x (frames.Grouping g) w h = Comes.same refl
  threw_leads x (frames.Producing n normal) w h = absurd (h.producing n normal refl)
  threw_leads x (frames.Disposing d) w h = absurd (h.disposing d refl)
  threw_leads x (frames.Observing others) w h = absurd (h.observing others refl)
  threw_leads x frames.Stopping w h = absurd (h.stopping refl)
  threw_leads x (frames.Answering r) w h = absurd (h.answering r refl)
  threw_leads x (frames.CleaningUp n) w h = absurd (h.cleaning_up n refl)
  threw_leads x frames.Exiting w h = absurd (h.exiting refl)
  threw_leads x frames.Using w h = absurd (h.using refl)
  threw_leads x (frames.Returning told) w h = absurd (h.returning told refl)
  threw_leads x frames.Initializing w h = absurd (h.initializing refl)
  threw_leads x frames.Opening w h = absurd (h.opening refl)
  threw_leads x frames.Telling w h = absurd (h.telling refl)
  threw_leads x frames.ShuttingDown w h = absurd (h.shutting_down refl)
  threw_leads x (frames.Finishing closing) w h = absurd (h.finishing closing refl)
  threw_leads x (frames.Closed after) w h = absurd (h.closed after refl)
  threw_leads x (frames.Injecting n b left field) w h = absurd (h.injecting n b left field refl)
  threw_leads x (frames.Completing n b left) w h = absurd (h.completing n b left refl)
  threw_leads x (frames.Stepping n b left) w h = absurd (h.stepping n b left refl)
  threw_leads x (frames.Providing p) w h = absurd (h.providing p refl)
  threw_leads x (frames.Constructing n b left) w h = absurd (h.constructing n b left refl)
  threw_leads x (frames.Finding r k) w h = absurd (h.finding r k refl)
