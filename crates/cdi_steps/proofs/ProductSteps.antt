-- The steps of products are those of the machine.
use Rattle.std.proofs.Common.{ℕ, ◌≡◌, [], refl, sym, ◌∙◌, ap, Option, Some, None, Bool, true, false}
use Rattle.std.proofs.Math.Path.{fun_ext}
use Rattle.std.specs.Global.{Box}
use Rattle.std.specs.Prelude.{option_map}
use Rattle.cdi_base.specs.declared.value.Value.{Value}
use Rattle.cdi_base.specs.declared.value.Value.TheVariants as values
use Rattle.cdi_base.specs.declared.entry.Entry.TheVariants as entries
use Rattle.cdi_base.specs.declared.built_in.BuiltIn.TheVariants as built_in
use Rattle.cdi_base.specs.BuiltIn.{number_of}
use Rattle.cdi_store.specs.declared.instance.Component.{Component}
use Rattle.cdi_store.specs.declared.instance.Component.TheVariants as components
use Rattle.cdi_store.specs.declared.instance.Owner.{Owner}
use Rattle.cdi_store.specs.declared.instance.Owner.TheVariants as owners
use Rattle.cdi_machine.specs.Words.{Fields, Name}
use Rattle.cdi_machine.specs.Tables.{Tables, Bean, Kind, Product, Source}
use Rattle.cdi_machine.specs.World.{World, Change, after_change}
use Rattle.cdi_machine.specs.Programs as machine
use Rattle.cdi_machine.specs.Programs.{Given, Completion, Gave, Threw, Prog, ret, throw, see, nested, tick, change, handle, require_present, complete, call, note, alter, raise, rethrow, instance, ◌>>=◌, ◌>>◌}
use Rattle.cdi_machine.specs.Contexts.{is_normal}
use Rattle.cdi_machine.specs.Creation.{accept, call_producer, create_by, end_creation, first_fields, make, produce}
use Rattle.cdi_machine.specs.Destruction.{borrow_for, obtain_receiver}
use Rattle.cdi_host.specs.Asked.{bean_in, head_of, product_in, product_of}
use Rattle.cdi_host.specs.declared.beans.BeanHead.{BeanHead}
use Rattle.cdi_steps.specs.ContainerCalls.{call_source, create_with, product_at, receive}
use Rattle.cdi_steps.specs.Meanings.{around, drop_null}
use Rattle.cdi_steps.specs.Products.{is_null, product_bean}
use Rattle.cdi_steps.specs.Leads.{next_stop, after_steps, Comes}
use Rattle.cdi_steps.proofs.Heads.{IsThere, is_absent}
use Rattle.cdi_steps.proofs.InjectionSteps.{discards}
use Rattle.cdi_steps.proofs.Sequences.{handle_after}
use Rattle.cdi_steps.proofs.Ways.{MovesTo, WaitsTo}
use Rattle.cdi_steps.specs.declared.task.Callee.TheVariants as callees
use Rattle.cdi_steps.specs.declared.task.ContainerCall.{ContainerCall}
use Rattle.cdi_steps.specs.declared.task.Call.TheVariants as calls
use Rattle.cdi_steps.specs.declared.task.Completion.TheVariants as completions
use Rattle.cdi_steps.specs.declared.task.Given.{Given as CodeGiven}
use Rattle.cdi_steps.specs.declared.task.Given.TheVariants as givens
use Rattle.cdi_steps.specs.declared.task.Outcome.TheVariants as outcomes
use Rattle.cdi_steps.specs.declared.task.Continuation.TheVariants as continuations
use Rattle.cdi_steps.specs.declared.task.Task.TheVariants as tasks
use Rattle.cdi_steps.specs.declared.task.Frame.TheVariants as frames
use Rattle.cdi_steps.specs.declared.task.Next.TheVariants as nexts

-- ---- the call of a producer

call_is : (n m : ℕ) (s : Source) → call_producer n m s ≡ call_source (Some s) m [] (owners.Instance n)
call_is n m (Source.ProducerMethod producer) = refl
call_is n m (Source.ProducerField field) = refl

-- the definition's, with what it is called with
abbrev giving : ℕ → Product → Prog Given
giving n p = borrow_for (obtain_receiver p.declaring >>= λ m. call_producer n m p.source)

-- what a creation does with what was given, or thrown
produces : (n : ℕ) (bean : Bean) (p : Product) → create_by n (produce n bean.scope p) ≡ around (giving n p) (create_with n (is_normal bean.scope))
produces n bean p = handle_after (giving n p) (accept (is_normal bean.scope) n) throw (end_creation n) (λ x. create_with n (is_normal bean.scope) (Threw x))

module _ (t : Tables) where
  -- the producer of a bean
  producer_of : (x : Option Bean) (bean : Bean) (p : Product) → x ≡ Some bean → product_of x ≡ Some p → bean.kind ≡ Kind.Producer p
  producer_of None bean p e q = absurd (cc)
  producer_of (Some a) bean p e q = let same : a ≡ bean = cc in by bean.kind (ap (λ (y : Bean). product_in y.kind) (sym same) ∙ q)
    where
      by : (k : Kind) → product_in k ≡ Some p → k ≡ Kind.Producer p
      by (Kind.Class c) z = absurd (cc)
      by (Kind.Producer o) z = let same : o ≡ p = cc in ap Kind.Producer same

  -- what is told of the bean of a component
  pub not_absent : (b : ℕ) → product_bean t (components.Bean b) ≡ Some b → product_at t b ≡ None → ⊥
  not_absent b e q = let none : product_bean t (components.Bean b) ≡ None = ap (λ x. option_map (λ (p : Product). b) x) q in absurd (cc)

  pub is_bean : (c : Component) (b : ℕ) → product_bean t c ≡ Some b → c ≡ components.Bean b
  is_bean (components.Interceptor i) b e = absurd (cc)
  is_bean (components.Bean a) b e = by (product_at t a) e
    where
      by : (x : Option Product) → option_map (λ (p : Product). a) x ≡ Some b → components.Bean a ≡ components.Bean b
      by None z = absurd (cc)
      by (Some p) z = let same : a ≡ b = cc in ap components.Bean same

  pub still_product : (c : Component) (b : ℕ) → product_bean t c ≡ Some b → product_bean t (components.Bean b) ≡ Some b
  still_product c b e = ap (product_bean t) (sym (is_bean c b e)) ∙ e

  pub no_product : (c : Component) → product_bean t c ≡ None → product_of (bean_in t c) ≡ None
  no_product (components.Interceptor i) e = refl
  no_product (components.Bean b) e = by (product_of (t.bean b)) e
    where
      by : (x : Option Product) → option_map (λ (p : Product). b) x ≡ None → x ≡ None
      by None z = refl
      by (Some p) z = absurd (cc)

  receives : (n b : ℕ) (p : Product) (c : ContainerCall) → product_at t b ≡ Some p
      → c ≡ record { declaring = p.declaring; callee = callees.Producer n b; args = [] }
      → giving n p ≡ borrow_for (receive t c)
  receives n b p c e q =
      ap (λ k. borrow_for (obtain_receiver p.declaring >>= k))
      (fun_ext (λ m. call_is n m p.source ∙ ap (λ x. call_source (option_map (λ (o : Product). o.source) x) m [] (owners.Instance n)) (sym e)))
      ∙ ap (λ c. borrow_for (receive t c)) (sym q)

  -- ---- an instance is made

  abbrev making : ℕ → ℕ → Owner → Option Bean → Prog Given
  making n b owner x = require_present x >>= λ bean. alter (Change.Make (components.Bean b) owner (first_fields bean.kind)) >>= λ _. create_by n (make n bean bean.kind)

  made : (n b : ℕ) (owner : Owner) (bean : Bean) (p : Product) → bean.kind ≡ Kind.Producer p
      → making n b owner (Some bean) ≡ change (Change.Make (components.Bean b) owner []) (around (giving n p) (create_with n (is_normal bean.scope)))
  made n b owner bean p e =
      ap (λ k. change (Change.Make (components.Bean b) owner (first_fields k)) (create_by n (make n bean k))) e
      ∙ ap (change (Change.Make (components.Bean b) owner [])) (produces n bean p)

  pub make_product_missing : (n b : ℕ) (owner : Box Owner) (w : World) → option_map head_of (t.bean b) ≡ None
      → MovesTo t (tasks.Continue (continuations.Making n (components.Bean b) owner)) w (nexts.Finished (outcomes.Ends (completions.Threw (number_of built_in.IllegalStateException)))) w
  make_product_missing n b owner w e = Comes.same (ap (λ x. next_stop t (making n b owner.value x) w) (is_absent (t.bean b) e))

  pub make_product_leads : (n b : ℕ) (owner : Box Owner) (head : BeanHead) (p : Product) (c : Box ContainerCall) (fields : Fields) {normal : Bool} (w : World) → IsThere (t.bean b) head → product_at t b ≡ Some p
      → c.value ≡ record { declaring = p.declaring; callee = callees.Producer n b; args = [] } → fields ≡ [] → is_normal head.scope ≡ normal
      → MovesTo t (tasks.Continue (continuations.Making n (components.Bean b) owner)) w (nexts.Needs (tasks.Calling c) (frames.Producing n normal)) (after_change (Change.Make (components.Bean b) owner.value fields) w)
  make_product_leads n b owner head p c fields w there e q f z =
      rw f
      (Comes.looks (Comes.within 2
      (ap (λ x. after_steps 1 t (making n b owner.value x) w) there.there
      ∙ ap (λ x. after_steps 1 t x w) (made n b owner.value there.bean p (producer_of (t.bean b) there.bean p there.there e))
      ∙ ap (λ x. (around x (create_with n (is_normal there.bean.scope)), after_change (Change.Make (components.Bean b) owner.value []) w)) (receives n b p c.value e q)
      ∙ ap (λ (h : BeanHead). (around (borrow_for (receive t c.value)) (create_with n (is_normal h.scope)), after_change (Change.Make (components.Bean b) owner.value []) w)) there.headed
      ∙ ap (λ y. (around (borrow_for (receive t c.value)) (create_with n y), after_change (Change.Make (components.Bean b) owner.value []) w)) z)))

  -- ---- what was produced

  -- what waits for the dependents of an instance whose product was null
  drops : (n : ℕ) (c : Completion Given)
      → handle (handle (complete c) (λ _. note (entries.Drop n) >>= λ _. alter (Change.Discard n)) throw) (λ _. ret Given.Empty) throw
      ≡ (complete c >> drop_null n)
  drops n (Gave g) = refl
  drops n (Threw x) = refl

  pub produced_threw : (n : ℕ) (normal : Bool) (x : Name) (w : World)
      → WaitsTo t (frames.Producing n normal) (completions.Threw x) w (nexts.Needs (tasks.Start (calls.Release n)) (frames.Discarding n x)) w
  produced_threw n normal x w = Comes.same (ap (λ k. (nested (machine.Release n) k, w)) (fun_ext (discards n x)))

  pub produced_illegal : (n : ℕ) (v : Value) {normal : Bool} (w : World) → is_null v ≡ true → normal ≡ true
      → WaitsTo t (frames.Producing n normal) (completions.Gave (givens.Result v)) w (nexts.Needs (tasks.Start (calls.Release n)) (frames.Discarding n (number_of built_in.IllegalProductException))) w
  produced_illegal n values.Null w e h = rw h (Comes.same (ap (λ k. (nested (machine.Release n) k, w)) (fun_ext (discards n (number_of built_in.IllegalProductException)))))
  produced_illegal n (values.Int i) w e h = absurd (cc)
  produced_illegal n (values.Text s) w e h = absurd (cc)

  pub produced_null : (n : ℕ) (v : Value) {normal : Bool} (w : World) → is_null v ≡ true → normal ≡ false
      → WaitsTo t (frames.Producing n normal) (completions.Gave (givens.Result v)) w (nexts.Needs (tasks.Start (calls.Release n)) (frames.Dropping n)) (after_change (Change.Hold n v) w)
  produced_null n values.Null w e h = rw h (Comes.same (ap (λ k. (nested (machine.Release n) k, after_change (Change.Hold n values.Null) w)) (fun_ext (drops n))))
  produced_null n (values.Int i) w e h = absurd (cc)
  produced_null n (values.Text s) w e h = absurd (cc)

  pub produced_leads : (n : ℕ) (normal : Bool) (v : Value) (w : World) → is_null v ≡ false
      → WaitsTo t (frames.Producing n normal) (completions.Gave (givens.Result v)) w (nexts.Writes (entries.Ready n) (continuations.Settling n)) (after_change (Change.Hold n v) w)
  produced_leads n normal values.Null w e = absurd (cc)
  produced_leads n true (values.Int i) w e = Comes.same refl
  produced_leads n false (values.Int i) w e = Comes.same refl
  produced_leads n true (values.Text s) w e = Comes.same refl
  produced_leads n false (values.Text s) w e = Comes.same refl

  pub produced_number : (n : ℕ) (normal : Bool) (m : ℕ) (w : World)
      → WaitsTo t (frames.Producing n normal) (completions.Gave (givens.Number m)) w (nexts.Writes (entries.Ready n) (continuations.Settling n)) w
  produced_number n true m w = Comes.same refl
  produced_number n false m w = Comes.same refl

  pub produced_empty : (n : ℕ) (normal : Bool) (w : World)
      → WaitsTo t (frames.Producing n normal) (completions.Gave givens.Empty) w (nexts.Writes (entries.Ready n) (continuations.Settling n)) w
  produced_empty n true w = Comes.same refl
  produced_empty n false w = Comes.same refl

  -- ---- no instance

  pub dropped_leads : (n : ℕ) (g : CodeGiven) (w : World)
      → WaitsTo t (frames.Dropping n) (completions.Gave g) w (nexts.Writes (entries.Drop n) (continuations.Dropping n)) w
  dropped_leads n g w = Comes.same refl

  pub dropped_threw : (n : ℕ) (x : Name) (w : World)
      → WaitsTo t (frames.Dropping n) (completions.Threw x) w (nexts.Finished (outcomes.Ends (completions.Threw x))) w
  dropped_threw n x w = Comes.same refl

  pub drop_null_leads : (n : ℕ) (w : World)
      → MovesTo t (tasks.Continue (continuations.Dropping n)) w (nexts.Finished (outcomes.Ends (completions.Gave givens.Empty))) (after_change (Change.Discard n) w)
  drop_null_leads n w = Comes.same refl
