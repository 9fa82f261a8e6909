-- The steps of programmatic lookup are those of the machine.
use Rattle.std.proofs.Common.{ℕ, ◌≡◌, refl, sym, ◌∙◌, ap, Option, Some, None, Bool, true, false}
use Rattle.std.proofs.Math.Path.{fun_ext}
use Rattle.std.specs.Prelude.{option_map, Ok, Err}
use Rattle.std.specs.Global.{Box}
use Rattle.cdi_base.specs.declared.value.Value.TheVariants as values
use Rattle.cdi_base.specs.declared.act.Act.TheVariants as acts
use Rattle.cdi_base.specs.declared.act.Answer.TheVariants as answers
use Rattle.cdi_base.specs.declared.built_in.BuiltIn.{BuiltIn}
use Rattle.cdi_base.specs.declared.built_in.BuiltIn.TheVariants as built_in
use Rattle.cdi_base.specs.BuiltIn.{number_of}
use Rattle.cdi_base.specs.Maps.{at}
use Rattle.cdi_store.specs.declared.instance.Owner.TheVariants as owners
use Rattle.cdi_store.specs.declared.references.Reference.{Reference}
use Rattle.cdi_store.specs.declared.references.Reference.TheVariants.{Proxy}
use Rattle.cdi_machine.specs.Words.{Name, Asked}
use Rattle.cdi_machine.specs.Tables.{Tables, Bean, Resolution, One, Nothing, Many}
use Rattle.cdi_machine.specs.World.{World, after_change}
use Rattle.cdi_machine.specs.Programs as machine
use Rattle.cdi_machine.specs.Programs.{Given, Prog, ret, throw, cut, miss, see, change, tick, mark, act, choose, nested, handle, require_present, require, require_one, raise, resolve, call, complete, attempt, finish, ActiveContext, active_or_raise, active_in, context, ◌>>=◌, ◌>>◌}
use Rattle.cdi_machine.specs.Contexts.{direct_reference, is_normal, refer_to}
use Rattle.cdi_machine.specs.Bodies.{perform, reference_at, answer_find, with_answer}
use Rattle.cdi_machine.specs.DestroyAct.{destroy_by, destroy_idle, is_idle}
use Rattle.cdi_host.specs.Running.{with_local}
use Rattle.cdi_host.specs.Asked.{head_of}
use Rattle.cdi_host.specs.declared.beans.BeanHead.{BeanHead}
use Rattle.cdi_steps.specs.Meanings.{go_on_with}
use Rattle.cdi_steps.specs.Leads.{next_stop}
use Rattle.cdi_steps.proofs.Heads.{IsThere, is_absent}
use Rattle.cdi_steps.proofs.Ways.{StopsAs}
use Rattle.cdi_steps.specs.declared.task.Call.TheVariants as calls
use Rattle.cdi_steps.specs.declared.task.Task.TheVariants as tasks
use Rattle.cdi_steps.specs.declared.task.Frame.TheVariants as frames
use Rattle.cdi_steps.specs.declared.task.Next.TheVariants as nexts
use Rattle.cdi_frames.specs.Acts.{bean_looked_up, bean_or_exception, destroy_found, StopsAlike}
use Rattle.cdi_frames.proofs.BodySteps.{attempt_then, answers_with}

module _ (t : Tables) where
  -- ---- find

  -- what is left of the act behind the look-up, behind the resolution, and behind the look at the bean
  abbrev asking : machine.Running → ℕ → Option Asked → Prog Given
  asking r k x =
      attempt (require_present x >>= λ asked. resolve asked >>= λ b. refer_to b (owners.Instance r.instance)) >>= answer_find r k

  abbrev resolving : machine.Running → ℕ → Option Resolution → Prog Given
  resolving r k x =
      attempt (require_present x >>= λ y. require_one y >>= λ b. refer_to b (owners.Instance r.instance)) >>= answer_find r k

  abbrev by_scope : machine.Running → ℕ → ℕ → Bool → Prog Given
  by_scope r k b x =
      attempt (elim x [
        | true ↦ ret (Proxy b)
        | false ↦ call (machine.Create b (owners.Instance r.instance)) >>= λ made. ret (direct_reference made)
      ]) >>= answer_find r k

  abbrev referring : machine.Running → ℕ → ℕ → Option Bean → Prog Given
  referring r k b x =
      attempt (require_present x >>= λ bean. elim (is_normal bean.scope) [
        | true ↦ ret (Proxy b)
        | false ↦ call (machine.Create b (owners.Instance r.instance)) >>= λ made. ret (direct_reference made)
      ]) >>= answer_find r k

  find_resolves : (r : machine.Running) (k : ℕ) (w : World)
      → next_stop t (perform r (acts.Find k)) w ≡ next_stop t (resolving r k (option_map t.resolve (t.lookup r.body k))) w
  find_resolves r k w = by (t.lookup r.body k)
    where
      by : (x : Option Asked) → next_stop t (asking r k x) w ≡ next_stop t (resolving r k (option_map t.resolve x)) w
      by None = refl
      by (Some asked) = refl

  pub find_refused : (r : machine.Running) (k : ℕ) (x : BuiltIn) (w : World)
      → bean_looked_up t r.body k ≡ Err x
      → next_stop t (perform r (acts.Find k)) w ≡ next_stop t (go_on_with r (machine.Threw (number_of x))) w
  find_refused r k x w e = find_resolves r k w ∙ by (option_map t.resolve (t.lookup r.body k)) e
    where
      threw_it : (y : BuiltIn) → y ≡ x → next_stop t (go_on_with r (machine.Threw (number_of y))) w ≡ next_stop t (go_on_with r (machine.Threw (number_of x))) w
      threw_it y z = ap (λ a. next_stop t (go_on_with r (machine.Threw (number_of a))) w) z

      by : (y : Option Resolution) → bean_or_exception y ≡ Err x
          → next_stop t (resolving r k y) w ≡ next_stop t (go_on_with r (machine.Threw (number_of x))) w
      by None e = threw_it built_in.IllegalStateException (cc)
      by (Some (One b)) e = absurd (cc)
      by (Some Nothing) e = threw_it built_in.UnsatisfiedResolutionException (cc)
      by (Some Many) e = threw_it built_in.AmbiguousResolutionException (cc)

  module _ (r : machine.Running) (k b : ℕ) (w : World) (e : bean_looked_up t r.body k ≡ Ok b) where
    find_refers : next_stop t (perform r (acts.Find k)) w ≡ next_stop t (referring r k b (t.bean b)) w
    find_refers = find_resolves r k w ∙ by (option_map t.resolve (t.lookup r.body k)) e
      where
        by : (y : Option Resolution) → bean_or_exception y ≡ Ok b
            → next_stop t (resolving r k y) w ≡ next_stop t (referring r k b (t.bean b)) w
        by None e = absurd (cc)
        by (Some (One c)) e = let z : c ≡ b = cc in ap (λ x. next_stop t (referring r k x (t.bean x)) w) z
        by (Some Nothing) e = absurd (cc)
        by (Some Many) e = absurd (cc)

    pub find_missing : option_map head_of (t.bean b) ≡ None
        → next_stop t (perform r (acts.Find k)) w ≡ next_stop t (go_on_with r (machine.Threw (number_of built_in.IllegalStateException))) w
    find_missing h = find_refers ∙ ap (λ x. next_stop t (referring r k b x) w) (is_absent (t.bean b) h)

    find_by_scope : (p : BeanHead) (x : Bool) → IsThere (t.bean b) p → is_normal p.scope ≡ x
        → next_stop t (perform r (acts.Find k)) w ≡ next_stop t (by_scope r k b x) w
    find_by_scope p x h q =
        find_refers
        ∙ ap (λ y. next_stop t (referring r k b y) w) h.there
        ∙ ap (λ (y : BeanHead). next_stop t (by_scope r k b (is_normal y.scope)) w) h.headed
        ∙ ap (λ y. next_stop t (by_scope r k b y) w) q

    pub find_proxy : (p : BeanHead) → IsThere (t.bean b) p → is_normal p.scope ≡ true
        → next_stop t (perform r (acts.Find k)) w ≡ next_stop t (answer_find r k (machine.Gave (Proxy b))) w
    find_proxy p h q = find_by_scope p true h q

  pub find_dependent : (q : Box machine.Running) (k b : ℕ) (p : BeanHead) (w : World)
      → bean_looked_up t q.value.body k ≡ Ok b
      → IsThere (t.bean b) p → is_normal p.scope ≡ false
      → StopsAs t (perform q.value (acts.Find k)) w (nexts.Needs (tasks.Start (calls.Create b (owners.Instance q.value.instance))) (frames.Finding q k)) w
  find_dependent q k b p w e h z = find_by_scope q.value k b w e p false h z

  pub found_leads : (r : machine.Running) (q : Box machine.Running) (k : ℕ) (x : Reference) (w : World)
      → q.value ≡ with_answer (with_local k x r) (answers.Found k)
      → StopsAs t (answer_find r k (machine.Gave x)) w (nexts.Goes (tasks.Start (calls.Acts q))) w
  found_leads r q k x w e = ap (λ z. (nested (machine.Acts z) complete, w)) (sym e)

  -- ---- what an act comes to goes on as it stops

  abbrev after_stop : (Given → Prog Given) → (Name → Prog Given) → Prog Given × World → Prog Given × World
  after_stop f h s = next_stop t (handle s.0 f h) s.1

  stops_within : (f : Given → Prog Given) (h : Name → Prog Given) (p : Prog Given) (w : World)
      → next_stop t (handle p f h) w ≡ after_stop f h (next_stop t p w)
  stops_within f h (ret g) w = refl
  stops_within f h (throw x) w = refl
  stops_within f h (cut cause) w = refl
  stops_within f h (miss p) w = stops_within f h p w
  stops_within f h (see k) w = stops_within f h (k t w) w
  stops_within f h (change g p) w = stops_within f h p (after_change g w)
  stops_within f h (tick e p) w = refl
  stops_within f h (mark n p) w = stops_within f h p w
  stops_within f h (act b fields view k) w = refl
  stops_within f h (choose n k) w = refl
  stops_within f h (nested c k) w = refl

  attempt_alike : (f : machine.Completion Given → Prog Given) (p q : Prog Given) (w : World) → StopsAlike t w p q
      → next_stop t (attempt p >>= f) w ≡ next_stop t (attempt q >>= f) w
  attempt_alike f p q w e =
      let g : Given → Prog Given = λ a. f (machine.Gave a) in
      let h : Name → Prog Given = λ x. f (machine.Threw x) in
      ap (λ z. next_stop t z w) (attempt_then p f)
      ∙ stops_within g h p w ∙ ap (after_stop g h) e ∙ sym (stops_within g h q w)
      ∙ ap (λ z. next_stop t z w) (sym (attempt_then q f))

  -- ---- destroy

  abbrev destroying : machine.Running → Prog Given → Prog Given
  destroying r p = attempt p >>= λ c. go_on_with r c

  module _ (r : machine.Running) (k : ℕ) (w : World) where
    abbrev behind : Reference
    behind = reference_at (at r.locals k)

    pub destroy_refused : (x : BuiltIn) → StopsAlike t w (destroy_by behind) (destroy_found (Err x))
        → next_stop t (perform r (acts.Destroy k)) w ≡ next_stop t (go_on_with r (machine.Threw (number_of x))) w
    destroy_refused x e = attempt_alike (go_on_with r) (destroy_by behind) (raise x) w e

    pub destroy_nothing : StopsAlike t w (destroy_by behind) (destroy_found (Ok None))
        → next_stop t (perform r (acts.Destroy k)) w ≡ next_stop t (go_on_with r (machine.Gave (machine.Result values.Null))) w
    destroy_nothing e = attempt_alike (go_on_with r) (destroy_by behind) finish w e

    abbrev unless_used : Bool → ℕ → Prog Given
    unless_used x n = destroying r (require x built_in.IllegalStateException >> call (machine.Destroy n))

    pub destroy_busy : (n : ℕ) → StopsAlike t w (destroy_by behind) (destroy_found (Ok (Some n))) → is_idle w n ≡ false
        → next_stop t (perform r (acts.Destroy k)) w ≡ next_stop t (go_on_with r (machine.Threw (number_of built_in.IllegalStateException))) w
    destroy_busy n e h = attempt_alike (go_on_with r) (destroy_by behind) (destroy_idle n) w e ∙ ap (λ x. next_stop t (unless_used x n) w) h

  pub destroy_leads : (b : Box machine.Running) (k n : ℕ) (w : World)
      → StopsAlike t w (destroy_by (reference_at (at b.value.locals k))) (destroy_found (Ok (Some n))) → is_idle w n ≡ true
      → StopsAs t (perform b.value (acts.Destroy k)) w (nexts.Needs (tasks.Start (calls.Destroy n)) (frames.Answering b)) w
  destroy_leads b k n w e h =
      attempt_alike (go_on_with b.value) (destroy_by (reference_at (at b.value.locals k))) (destroy_idle n) w e
      ∙ ap (λ x. next_stop t (unless_used b.value k w x n) w) h
      ∙ ap (λ f. (nested (machine.Destroy n) f, w)) (fun_ext (answers_with t b.value))
