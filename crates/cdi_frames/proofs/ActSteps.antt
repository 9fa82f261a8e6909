-- The steps of acts are those of the machine.
use Rattle.std.proofs.Common.{ℕ, ◌≡◌, List, [], ◌∷◌, refl, sym, ◌∙◌, ap, Option, Some, None}
use Rattle.std.proofs.Math.Path.{fun_ext}
use Rattle.std.specs.Prelude.{slice_get}
use Rattle.std.specs.Global.{Box}
use Rattle.cdi_base.specs.declared.uses.Use.{Use}
use Rattle.cdi_base.specs.declared.value.Value.{Value}
use Rattle.cdi_base.specs.declared.value.Value.TheVariants as values
use Rattle.cdi_base.specs.declared.act.Act.TheVariants as acts
use Rattle.cdi_base.specs.declared.act.Via.{Via}
use Rattle.cdi_base.specs.declared.act.Via.TheVariants as vias
use Rattle.cdi_base.specs.declared.act.Answer.TheVariants as answers
use Rattle.cdi_base.specs.declared.built_in.BuiltIn.TheVariants as built_in
use Rattle.cdi_base.specs.BuiltIn.{number_of}
use Rattle.cdi_base.specs.Maps.{at}
use Rattle.cdi_store.specs.declared.instance.Instance.{Instance}
use Rattle.cdi_store.specs.declared.references.Reference.{Reference}
use Rattle.cdi_machine.specs.Words.{Name}
use Rattle.cdi_machine.specs.Tables.{Tables}
use Rattle.cdi_machine.specs.World.{World, Change, Invocation, after_change, instance_at}
use Rattle.cdi_machine.specs.Programs as machine
use Rattle.cdi_machine.specs.Programs.{Given, Result, Prog, ret, nested, require_present, complete, attempt, top, call, each, finish, ◌>>=◌}
use Rattle.cdi_machine.specs.Contexts.{reach_instance}
use Rattle.cdi_machine.specs.Bodies.{perform, reference_at, value_at, with_answer}
use Rattle.cdi_host.specs.Asked.{top_of}
use Rattle.cdi_steps.specs.Meanings.{node, go_on_with, use_instance}
use Rattle.cdi_steps.specs.Leads.{next_stop, after_steps, Comes}
use Rattle.cdi_steps.proofs.Ways.{ComesTo, StopsAs}
use Rattle.cdi_steps.specs.declared.task.Call.TheVariants as calls
use Rattle.cdi_steps.specs.declared.task.Event.{Event}
use Rattle.cdi_steps.specs.declared.task.Purpose.{Purpose}
use Rattle.cdi_steps.specs.declared.task.Purpose.TheVariants as purposes
use Rattle.cdi_steps.specs.declared.task.ReferenceUse.{ReferenceUse}
use Rattle.cdi_steps.specs.declared.task.Task.TheVariants as tasks
use Rattle.cdi_steps.specs.declared.task.Frame.TheVariants as frames
use Rattle.cdi_steps.specs.declared.task.Next.TheVariants as nexts
use Rattle.cdi_frames.specs.Acts.{reference_via, use_act}
use Rattle.cdi_frames.proofs.BodySteps.{answering, answers_with, attempt_then}

module _ (t : Tables) where
  -- ---- a reference is used

  -- what is left of the act once the reference is found
  abbrev using : machine.Running → Purpose → Reference → Prog Given
  using r purpose x = attempt (reach_instance x >>= λ n. use_instance n purpose) >>= λ c. go_on_with r c

  abbrev using_field : machine.Running → Name → Purpose → Option Instance → Prog Given
  using_field r field purpose x =
      attempt ((require_present x >>= λ o. ret (reference_at (at o.references field))) >>= λ y. reach_instance y >>= λ n. use_instance n purpose)
      >>= λ c. go_on_with r c

  field_looks : (r : machine.Running) (field : Name) (purpose : Purpose) (w : World)
      → after_steps 1 t (perform r (use_act (vias.Field field) purpose)) w ≡ (using_field r field purpose (instance_at w r.instance), w)
  field_looks r field (purposes.Call name args) w = refl
  field_looks r field purposes.Read w = refl
  field_looks r field (purposes.Write v) w = refl

  field_stops : (r : machine.Running) (field : Name) (purpose : Purpose) (w : World)
      → next_stop t (perform r (use_act (vias.Field field) purpose)) w ≡ next_stop t (using_field r field purpose (instance_at w r.instance)) w
  field_stops r field (purposes.Call name args) w = refl
  field_stops r field purposes.Read w = refl
  field_stops r field (purposes.Write v) w = refl

  parameter_uses : (r : machine.Running) (k : ℕ) (purpose : Purpose)
      → perform r (use_act (vias.Param k) purpose) ≡ using r purpose (reference_at (slice_get r.references k))
  parameter_uses r k (purposes.Call name args) = refl
  parameter_uses r k purposes.Read = refl
  parameter_uses r k (purposes.Write v) = refl

  local_uses : (r : machine.Running) (k : ℕ) (purpose : Purpose)
      → perform r (use_act (vias.Local k) purpose) ≡ using r purpose (reference_at (at r.locals k))
  local_uses r k (purposes.Call name args) = refl
  local_uses r k purposes.Read = refl
  local_uses r k (purposes.Write v) = refl

  pub via_missing : (r : machine.Running) (via : Via) (purpose : Purpose) (w : World)
      → reference_via (instance_at w r.instance) r via ≡ None
      → next_stop t (perform r (use_act via purpose)) w ≡ next_stop t (go_on_with r (machine.Threw (number_of built_in.IllegalStateException))) w
  via_missing r (vias.Field field) purpose w e = field_stops r field purpose w ∙ by (instance_at w r.instance) e
    where
      by : (x : Option Instance) → reference_via x r (vias.Field field) ≡ None
          → next_stop t (using_field r field purpose x) w ≡ next_stop t (go_on_with r (machine.Threw (number_of built_in.IllegalStateException))) w
      by None e = refl
      by (Some o) e = absurd (cc)
  via_missing r (vias.Param k) purpose w e = absurd (cc)
  via_missing r (vias.Local k) purpose w e = absurd (cc)

  abbrev use_of : Reference → Purpose → ReferenceUse
  use_of x purpose = record { reference = x; purpose = purpose }

  used : (b : Box machine.Running) (x : Reference) (purpose : Purpose)
      → using b.value purpose x ≡ node (nexts.Needs (tasks.Through (use_of x purpose)) (frames.Answering b))
  used b x purpose = attempt_then (reach_instance x >>= λ n. use_instance n purpose) (go_on_with b.value)

  pub via_leads : (b : Box machine.Running) (via : Via) (x : Reference) (purpose : Purpose) (w : World)
      → reference_via (instance_at w b.value.instance) b.value via ≡ Some x
      → ComesTo t (perform b.value (use_act via purpose)) w (nexts.Needs (tasks.Through (use_of x purpose)) (frames.Answering b)) w
  via_leads b (vias.Field field) x purpose w e = Comes.within 1 (field_looks b.value field purpose w ∙ ap (λ p. (p, w)) (by (instance_at w b.value.instance) e))
    where
      by : (o : Option Instance) → reference_via o b.value (vias.Field field) ≡ Some x
          → using_field b.value field purpose o ≡ node (nexts.Needs (tasks.Through (use_of x purpose)) (frames.Answering b))
      by None e = absurd (cc)
      by (Some o) e =
          let z : reference_at (at o.references field) ≡ x = cc in
          ap (using b.value purpose) z ∙ used b x purpose
  via_leads b (vias.Param k) x purpose w e =
      let z : reference_at (slice_get b.value.references k) ≡ x = cc in
      Comes.within 0 (ap (λ p. (p, w)) (parameter_uses b.value k purpose ∙ ap (using b.value purpose) z ∙ used b x purpose))
  via_leads b (vias.Local k) x purpose w e =
      let z : reference_at (at b.value.locals k) ≡ x = cc in
      Comes.within 0 (ap (λ p. (p, w)) (local_uses b.value k purpose ∙ ap (using b.value purpose) z ∙ used b x purpose))

  -- ---- context data

  pub keep_leads : (r : machine.Running) (q : Box machine.Running) (key : Name) (v : Value) (w : World)
      → q.value ≡ with_answer r (answers.Done values.Null)
      → StopsAs t (perform r (acts.Keep key v)) w (nexts.Goes (tasks.Start (calls.Acts q))) (after_change (Change.Keep key v) w)
  keep_leads r q key v w e = ap (λ z. (nested (machine.Acts z) complete, after_change (Change.Keep key v) w)) (sym e)

  abbrev peeking : machine.Running → Name → List Invocation → Prog Given
  peeking r key vs = attempt (top vs >>= λ v. ret (Result (value_at (at v.data_of key)))) >>= λ c. go_on_with r c

  pub peek_missing : (r : machine.Running) (key : Name) (w : World) → top_of w.invocations ≡ None
      → next_stop t (perform r (acts.Peek key)) w ≡ next_stop t (go_on_with r (machine.Threw (number_of built_in.IllegalStateException))) w
  peek_missing r key w e = by w.invocations e
    where
      by : (vs : List Invocation) → top_of vs ≡ None
          → next_stop t (peeking r key vs) w ≡ next_stop t (go_on_with r (machine.Threw (number_of built_in.IllegalStateException))) w
      by [] e = refl
      by (v ∷ vs) e = absurd (cc)

  pub peek_leads : (r : machine.Running) (q : Box machine.Running) (key : Name) (v : Invocation) (x : Value) (w : World)
      → top_of w.invocations ≡ Some v → x ≡ value_at (at v.data_of key) → q.value ≡ with_answer r (answers.Done x)
      → StopsAs t (perform r (acts.Peek key)) w (nexts.Goes (tasks.Start (calls.Acts q))) w
  peek_leads r q key v x w e h k = by w.invocations e ∙ ap (λ y. (nested (machine.Acts (with_answer r (answers.Done y))) complete, w)) (sym h) ∙ ap (λ z. (nested (machine.Acts z) complete, w)) (sym k)
    where
      by : (vs : List Invocation) → top_of vs ≡ Some v
          → next_stop t (peeking r key vs) w ≡ (nested (machine.Acts (with_answer r (answers.Done (value_at (at v.data_of key))))) complete, w)
      by [] e = absurd (cc)
      by (u ∷ us) e =
          let z : u ≡ v = cc in
          ap (λ (i : Invocation). (nested (machine.Acts (with_answer r (answers.Done (value_at (at i.data_of key))))) complete, w)) z

  -- ---- events

  pub fire_leads : (b : Box machine.Running) (q : Box Event) (class : Name) (qualifiers : List Use) (v : Value) (w : World)
      → q.value ≡ record { class = class; qualifiers = qualifiers; value = v }
      → StopsAs t (perform b.value (acts.Fire class qualifiers v)) w (nexts.Needs (tasks.Start (calls.Publish q)) (frames.Answering b)) w
  fire_leads b q class qualifiers v w e =
      ap (λ (x : Event). (nested (machine.Fire x.class x.qualifiers x.value) (answering t b.value), w)) (sym e)
      ∙ ap (λ k. (nested (machine.Fire q.value.class q.value.qualifiers q.value.value) k, w)) (fun_ext (answers_with t b.value))
