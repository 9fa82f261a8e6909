-- The steps of disposers are those of the machine.
use Rattle.std.proofs.Common.{ℕ, zero, suc, ◌+◌, ◌<◌, ◌^◌, arith, ◌≡◌, List, [], ◌∷◌, drop, refl, sym, ◌∙◌, ap, Option, Some, None}
use Rattle.std.specs.Global.{Box}
use Rattle.std.specs.Prelude.{option_map, slice_get}
use Rattle.cdi_base.specs.declared.value.Value.{Value}
use Rattle.cdi_store.specs.declared.instance.Component.TheVariants as components
use Rattle.cdi_store.specs.declared.instance.Instance.{Instance}
use Rattle.cdi_store.specs.declared.instance.Owner.TheVariants as owners
use Rattle.cdi_machine.specs.Words.{Name}
use Rattle.cdi_machine.specs.Tables.{Tables, Bean, Kind, Member, Product, Source}
use Rattle.cdi_machine.specs.World.{World, Change, after_change, instance_at}
use Rattle.cdi_machine.specs.Programs.{Given, Prog, throw, handle, quietly, do_nothing, require_present, complete, each, ◌>>=◌, ◌>>◌}
use Rattle.cdi_machine.specs.Bodies.{invoke}
use Rattle.cdi_machine.specs.Destruction.{borrow_for, clean_up_bean, dispose, obtain_receiver}
use Rattle.cdi_host.specs.Asked.{product_in, product_of}
use Rattle.cdi_steps.specs.ContainerCalls.{call_source, disposers_of, dispose_of, dispose_with, product_at, receive}
use Rattle.cdi_steps.specs.Meanings.{around, carry_on_leaving, dispose_quietly, end_instance, free_dependents, node, waits}
use Rattle.cdi_steps.specs.Products.{CallsDisposer, Disposes, declaring_at, product_bean}
use Rattle.cdi_steps.specs.Leads.{next_stop, after_steps, Comes}
use Rattle.cdi_steps.specs.Steps.{Follows, GoesOn}
use Rattle.cdi_steps.proofs.Changes.{leave_invocations, same_invoked}
use Rattle.cdi_steps.proofs.LastSteps.{drop_step}
use Rattle.cdi_steps.proofs.Looks.{behind_look, behind_steps}
use Rattle.cdi_steps.proofs.Made.{leaves_alone}
use Rattle.cdi_steps.proofs.ProductSteps.{is_bean, not_absent}
use Rattle.cdi_steps.proofs.Sequences.{handle_after}
use Rattle.cdi_steps.proofs.Ways.{ComesTo, WaitsTo}
use Rattle.cdi_steps.specs.declared.task.Callee.TheVariants as callees
use Rattle.cdi_steps.specs.declared.task.ContainerCall.{ContainerCall}
use Rattle.cdi_steps.specs.declared.task.Disposal.{Disposal}
use Rattle.cdi_steps.specs.declared.task.Call.TheVariants as calls
use Rattle.cdi_steps.specs.declared.task.Completion.TheVariants as completions
use Rattle.cdi_steps.specs.declared.task.Given.{Given as CodeGiven}
use Rattle.cdi_steps.specs.declared.task.Continuation.TheVariants as continuations
use Rattle.cdi_steps.specs.declared.task.Task.TheVariants as tasks
use Rattle.cdi_steps.specs.declared.task.Frame.TheVariants as frames
use Rattle.cdi_steps.specs.declared.task.Next.{Next}
use Rattle.cdi_steps.specs.declared.task.Next.TheVariants as nexts

-- ---- programs

-- the first of several, and what waits for it
first_quietly : (n : ℕ) (f : Member → Prog Given) (m : Member) (ms : List Member)
    → dispose_quietly n (each (m ∷ ms) f) ≡ around (f m) (λ c. dispose_quietly n (complete c >> each ms f))
first_quietly n f m [] = handle_after (f m) (λ _. do_nothing) (λ _. do_nothing) (λ _. free_dependents n) throw
first_quietly n f m (y ∷ ys) =
    ap (λ p. handle p (λ _. free_dependents n) throw) (handle_after (f m) (λ _. each (y ∷ ys) f) throw (λ _. do_nothing) (λ _. do_nothing))
    ∙ handle_after (f m) (λ _. quietly (each (y ∷ ys) f)) (λ _. do_nothing) (λ _. free_dependents n) throw

-- those from a place on, if one is there and if none is
from_place : (ms : List Member) (i : ℕ) (m : Member) → slice_get ms i ≡ Some m → drop i ms ≡ m ∷ drop (i + 1) ms
from_place ms i m e = let next : suc i ≡ i + 1 = omega arith in drop_step ms i e ∙ ap (λ j. m ∷ drop j ms) next

none_from : (ms : List Member) (i : ℕ) → slice_get ms i ≡ None → drop i ms ≡ []
none_from [] zero e = refl
none_from [] (suc i) e = refl
none_from (y ∷ ys) zero e = absurd (cc)
none_from (y ∷ ys) (suc i) e = none_from ys i e

-- a disposer that is there, with what declares it
record IsDue (x : Option Product) (at declaring : ℕ) : Type 0 where
  product : Product
  member : Member
  found : x ≡ Some product
  stands : slice_get product.disposers at ≡ Some member
  declared : product.declaring ≡ declaring

is_due : (x : Option Product) (at declaring : ℕ) → declaring_at x at ≡ Some declaring → IsDue x at declaring
is_due None at declaring e = absurd (cc)
is_due (Some p) at declaring e = by (slice_get p.disposers at) refl e
  where
    by : (m : Option Member) → slice_get p.disposers at ≡ m → option_map (λ (m : Member). p.declaring) m ≡ Some declaring → IsDue (Some p) at declaring
    by None q z = absurd (cc)
    by (Some m) q z = record { product = p; member = m; found = refl; stands = q; declared = cc }

module _ (t : Tables) where
  -- ---- none is left

  none_left : (d : Disposal) (x : Option Product) (w : World) → declaring_at x d.next ≡ None
      → next_stop t (dispose_quietly d.number (dispose_with x d.next d.value)) w ≡ (node (nexts.Needs (tasks.Start (calls.Release d.number)) (frames.Releasing d.number)), w)
  none_left d None w e = refl
  none_left d (Some p) w e = by (slice_get p.disposers d.next) refl e
    where
      by : (m : Option Member) → slice_get p.disposers d.next ≡ m → option_map (λ (m : Member). p.declaring) m ≡ None
          → next_stop t (dispose_quietly d.number (each (drop d.next p.disposers) (dispose p d.value))) w ≡ (node (nexts.Needs (tasks.Start (calls.Release d.number)) (frames.Releasing d.number)), w)
      by None q z = ap (λ ms. next_stop t (dispose_quietly d.number (each ms (dispose p d.value))) w) (none_from p.disposers d.next q)
      by (Some m) q z = absurd (cc)

  pub disposes_no_more : (d : Disposal) {next : Next} → declaring_at (product_at t d.bean) d.next ≡ None
      → next ≡ nexts.Needs (tasks.Start (calls.Release d.number)) (frames.Releasing d.number) → Disposes t d next
  disposes_no_more d e q = rw q (record { steps = λ w. leaves_alone (Comes.same (none_left d (product_at t d.bean) w e)) (omega arith) refl (tt, tt) tt })

  -- ---- the next one

  receives : (d : Disposal) (declaring : ℕ) (due : IsDue (product_at t d.bean) d.next declaring) (c : ContainerCall)
      → c ≡ record { declaring = declaring; callee = callees.Disposer d.bean d.next; args = d.value ∷ [] }
      → dispose due.product d.value due.member ≡ borrow_for (receive t c)
  receives d declaring due c q =
      ap (λ b. borrow_for (obtain_receiver b >>= λ m. invoke m due.member (d.value ∷ []) owners.Borrower)) due.declared
      ∙ ap (λ x. borrow_for (obtain_receiver declaring >>= λ m. call_source (option_map Source.ProducerMethod x) m (d.value ∷ []) owners.Borrower)) (sym due.stands)
      ∙ ap (λ x. borrow_for (obtain_receiver declaring >>= λ m. call_source (option_map Source.ProducerMethod (slice_get (disposers_of x) d.next)) m (d.value ∷ []) owners.Borrower)) (sym due.found)
      ∙ ap (λ c. borrow_for (receive t c)) (sym q)

  calls_next : (d : Disposal) (declaring : ℕ) (w : World) (next : Next) → IsDue (product_at t d.bean) d.next declaring → CallsDisposer d declaring next
      → ComesTo t (dispose_quietly d.number (dispose_of t d)) w next w
  calls_next d declaring w next due c =
      rw c.next_is
      (Comes.looks {k = λ t w. around (borrow_for (receive t c.called.value)) (waits (frames.Disposing c.others))}
      (Comes.parts {j = λ r. dispose_quietly d.number (complete r >> each (drop (d.next + 1) due.product.disposers) (dispose due.product d.value))} {k = waits (frames.Disposing c.others)} (borrow_for (receive t c.called.value)) 0
      (ap (λ x. (dispose_quietly d.number (dispose_with x d.next d.value), w)) due.found
      ∙ ap (λ ms. (dispose_quietly d.number (each ms (dispose due.product d.value)), w)) (from_place due.product.disposers d.next due.member due.stands)
      ∙ ap (λ p. (p, w)) (first_quietly d.number (dispose due.product d.value) due.member (drop (d.next + 1) due.product.disposers))
      ∙ ap (λ p. (around p (λ r. dispose_quietly d.number (complete r >> each (drop (d.next + 1) due.product.disposers) (dispose due.product d.value))), w)) (receives d declaring due c.called.value c.called_is))
      refl
      (λ r u. Comes.looks {k = λ t w. dispose_quietly c.others.value.number (complete r >> dispose_of t c.others.value)} (Comes.within 0
      (ap (λ x. (dispose_quietly d.number (complete r >> dispose_with x (d.next + 1) d.value), u)) (sym due.found)
      ∙ ap (λ (o : Disposal). (dispose_quietly o.number (complete r >> dispose_of t o), u)) (sym c.others_is))))))

  pub disposes_next : (d : Disposal) (declaring : ℕ) (next : Next) → declaring_at (product_at t d.bean) d.next ≡ Some declaring → d.next + 1 < 2 ^ 64
      → CallsDisposer d declaring next → Disposes t d next
  disposes_next d declaring next e few c =
      record { steps = λ w. leaves_alone (calls_next d declaring w next (is_due (product_at t d.bean) d.next declaring e) c) (rw c.next_is (rw c.others_is (omega (arith, few)))) refl (rw c.next_is (rw c.called_is (tt, tt))) (rw c.next_is tt) }

  -- ---- a disposer has ended

  pub disposed_leads : (d : Box Disposal) (g : CodeGiven) (next : Next) (w : World) → Disposes t d.value next → GoesOn t (frames.Disposing d) (completions.Gave g) w next w
  disposed_leads d g next w h =
      let s = h.steps w in
      record { leads = behind_look s.leads; lowers = s.lowers; known = s.known; invoked = s.invoked; quiet = s.quiet }

  pub disposed_threw : (d : Box Disposal) (x : Name) (w : World)
      → WaitsTo t (frames.Disposing d) (completions.Threw x) w (nexts.Needs (tasks.Start (calls.Release d.value.number)) (frames.Releasing d.value.number)) w
  disposed_threw d x w = Comes.same refl

  -- ---- the instance leaves

  abbrev leaving : ℕ → Option Instance → Prog Given
  leaving n x = require_present x >>= λ o. end_instance n o.value o.component

  abbrev with_bean : ℕ → Value → Option Bean → Prog Given
  with_bean n v x = quietly (require_present x >>= λ bean. clean_up_bean n v bean.kind) >> free_dependents n

  cleans_up : (n b : ℕ) (v : Value) (x : Option Bean) → product_bean t (components.Bean b) ≡ Some b → t.bean b ≡ x
      → with_bean n v x ≡ dispose_quietly n (dispose_with (product_of x) 0 v)
  cleans_up n b v None e q = absurd (not_absent t b e (ap product_of q))
  cleans_up n b v (Some bean) e q = by bean.kind refl
    where
      by : (k : Kind) → bean.kind ≡ k → quietly (clean_up_bean n v k) >> free_dependents n ≡ dispose_quietly n (dispose_with (product_in k) 0 v)
      by (Kind.Class c) z = absurd (not_absent t b e (ap product_of q ∙ ap product_in z))
      by (Kind.Producer p) z = refl

  leaves : (n b : ℕ) (o : Instance) (w : World) → instance_at w n ≡ Some o → product_bean t o.component ≡ Some b
      → after_steps 4 t (carry_on_leaving n) w ≡ (dispose_quietly n (dispose_with (product_at t b) 0 o.value), after_change (Change.Leave n) w)
  leaves n b o w there e =
      let same = is_bean t o.component b e in
      ap (λ x. after_steps 3 t (leaving n x) w) there
      ∙ ap (λ c. after_steps 3 t (end_instance n o.value c) w) same
      ∙ ap (λ p. (p, after_change (Change.Leave n) w)) (cleans_up n b o.value (t.bean b) (ap (product_bean t) (sym same) ∙ e) refl)

  pub leave_disposes : (n b : ℕ) (o : Instance) {v : Value} (next : Next) (w : World) → instance_at w n ≡ Some o → product_bean t o.component ≡ Some b → v ≡ o.value
      → Disposes t (record { number = n; bean = b; next = 0; value = v }) next
      → Follows t (continuations.Leaving n) w next (after_change (Change.Leave n) w)
  leave_disposes n b o next w there e q h =
      let s = h.steps (after_change (Change.Leave n) w) in
      let same = leave_invocations n w in
      record {
        leads = behind_steps 4 (leaves n b o w there e) (rw q at s.leads);
        lowers = omega (arith, s.lowers);
        known = λ k. s.known (same_invoked same k);
        invoked = λ k. s.invoked (same_invoked same k);
        quiet = s.quiet;
      }
