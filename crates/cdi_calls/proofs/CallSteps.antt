-- The steps of calls by the container itself are those of the machine.
use Rattle.std.proofs.Common.{ℕ, zero, suc, ◌≡◌, ◌++◌, ◌<◌, ◌^◌, arith, List, [], ◌∷◌, length, refl, sym, ◌∙◌, ap, subst, Option, Some, None, Bool, true, false, nat_eq, Bor}
use Rattle.std.proofs.Math.Path.{fun_ext}
use Rattle.std.proofs.lemmas.List.{append-nil, append_assoc}
use Rattle.std.specs.Global.{Box}
use Rattle.std.specs.Option.{option_copied}
use Rattle.std.specs.Prelude.{drop, map, option_map, option_and_then, slice_get, IfSome, IsSome}
use Rattle.cdi_base.specs.declared.value.Value.{Value}
use Rattle.cdi_base.specs.declared.built_in.BuiltIn.{BuiltIn}
use Rattle.cdi_base.specs.declared.built_in.BuiltIn.TheVariants as built_in
use Rattle.cdi_base.specs.BuiltIn.{number_of}
use Rattle.cdi_base.specs.declared.place.InterceptorMethod.TheVariants as roles
use Rattle.cdi_base.specs.Fields.{has, get}
use Rattle.cdi_base.specs.Maps.{at}
use Rattle.cdi_store.specs.declared.instance.Instance.{Instance}
use Rattle.cdi_store.specs.declared.instance.Owner.{Owner}
use Rattle.cdi_store.specs.declared.instance.Owner.TheVariants as owners
use Rattle.cdi_store.specs.declared.references.Reference.{Reference}
use Rattle.cdi_store.specs.declared.references.Reference.TheVariants.{Proxy}
use Rattle.cdi_machine.specs.Words.{Name, Fields, Asked}
use Rattle.cdi_machine.specs.Tables.{Tables, Bean, Code, Member, Resolution, One, Source}
use Rattle.cdi_machine.specs.World.{World, Change, Invocation, after_change, instance_at}
use Rattle.cdi_machine.specs.Programs as machine
use Rattle.cdi_machine.specs.Programs.{Given, Number, Result, Completion, Gave, Threw, Prog, ret, throw, see, nested, handle, finally, tell_missing, require_present, require_one, complete, call, alter, ◌>>=◌, ◌>>◌}
use Rattle.cdi_machine.specs.Bodies.{invocation_at_start, invoke, provide}
use Rattle.cdi_machine.specs.Contexts.{direct_reference, is_normal, reach_instance, refer_to, resolve_point, resolve_points, stays}
use Rattle.cdi_host.specs.Asked.{head_of, machine_resolution, product_of}
use Rattle.cdi_host.specs.declared.beans.BeanHead.{BeanHead}
use Rattle.cdi_machine.specs.Resolved.{IsResolvedMember}
use Rattle.cdi_machine.specs.Told.{member_told, point_told, product_told}
use Rattle.cdi_machine.specs.declared.member.Member.{Member as CodeMember}
use Rattle.cdi_machine.specs.declared.member.Product.{Product as CodeProduct}
use Rattle.cdi_machine.specs.declared.point.Point.{Point as CodePoint}
use Rattle.cdi_steps.specs.Known.{IsKnownBody, KnownCallee, of_disposer}
use Rattle.cdi_steps.specs.Ranks.{supply_rank}
use Rattle.cdi_steps.specs.ContainerCalls.{disposers_of, source_of, member_in, member_of, field_in, field_of, owner_of, read_field, call_source, call_on, run_with, supply, supply_behind, supply_made, IsNextCallPoint, HasNextResolution}
use Rattle.cdi_steps.specs.Leads.{next_stop, after_steps, Comes}
use Rattle.cdi_steps.specs.Meanings.{node}
use Rattle.cdi_steps.specs.Words.{given_of}
use Rattle.cdi_steps.specs.declared.task.Call.TheVariants as calls
use Rattle.cdi_steps.specs.declared.task.CallParameters.{CallParameters}
use Rattle.cdi_steps.specs.declared.task.Completion.TheVariants as completions
use Rattle.cdi_steps.specs.declared.task.ContainerCall.{ContainerCall}
use Rattle.cdi_steps.specs.declared.task.Frame.TheVariants as frames
use Rattle.cdi_steps.specs.declared.task.Given.{Given as CodeGiven}
use Rattle.cdi_steps.specs.declared.task.Given.TheVariants as givens
use Rattle.cdi_steps.specs.declared.task.Outcome.TheVariants as outcomes
use Rattle.cdi_steps.specs.declared.task.Next.{Next}
use Rattle.cdi_steps.specs.declared.task.Next.TheVariants as nexts
use Rattle.cdi_steps.specs.declared.task.Task.TheVariants as tasks
use Rattle.cdi_steps.proofs.Heads.{IsThere, is_absent}
use Rattle.cdi_steps.proofs.Looks.{behind_look}
use Rattle.cdi_steps.proofs.ParameterSteps.{point_resolved, told_at}
use Rattle.cdi_steps.proofs.Sequences.{bind_after}
use Rattle.cdi_steps.proofs.Ways.{ComesTo, MovesTo, WaitsTo, StopsAs}

-- ---- what is called

-- what is there, and meets something
pub record IsMet {X : Type 0} (o : Option X) (P : X → Type 0) : Type 0 where
  pub it : X
  pub is : o ≡ Some it
  pub meets : P it

pub met : {X : Type 0} {P : X → Type 0} (o : Option X) → IsSome o → IfSome o P → IsMet o P
met None there h = absurd cc
met (Some x) there h = record { it = x; is = refl; meets = h }

members_told : (ms : List CodeMember) (i : ℕ) (x : CodeMember) → slice_get ms i ≡ Some x → slice_get (map member_told ms) i ≡ Some (member_told x)
members_told [] i x e = absurd cc
members_told (y ∷ ys) zero x e = let q : y ≡ x = cc in ap (λ z. Some (member_told z)) q
members_told (y ∷ ys) (suc i) x e = members_told ys i x e

-- the body of a disposer is known
pub disposer_known : (t : Tables) (bean i : ℕ) (p : CodeProduct) (o : Option (Bor CodeMember)) → product_of (t.bean bean) ≡ Some (product_told p) → option_copied o ≡ slice_get p.disposers i
    → IfSome o (λ m. IsKnownBody t m.now.code.body)
disposer_known t bean i p None e f = tt
disposer_known t bean i p (Some m) e f =
    of_disposer (record {
      bean = bean;
      at = i;
      member = member_told m.now;
      stands = ap (λ x. slice_get (disposers_of x) i) e ∙ members_told p.disposers i m.now (sym f);
      body_is = refl;
    })

points_told : (points : List CodePoint) (i : ℕ) → slice_get points i ≡ None → slice_get (map point_told points) i ≡ None
points_told [] i e = refl
points_told (y ∷ ys) zero e = absurd cc
points_told (y ∷ ys) (suc i) e = points_told ys i e

-- a field that is called is read
called_field : (s : Option Source) (field m : ℕ) (args : List Value) (owner : Owner) → option_and_then field_in s ≡ Some field → call_source s m args owner ≡ read_field m field
called_field None field m args owner e = absurd cc
called_field (Some (Source.ProducerMethod member)) field m args owner e = absurd cc
called_field (Some (Source.ProducerField f)) field m args owner e = let q : f ≡ field = cc in ap (read_field m) q

pub called_is_read : (t : Tables) (c : ContainerCall) (m field : ℕ) → field_of t c.callee ≡ Some field → call_on t c m ≡ read_field m field
called_is_read t c m field e = called_field (source_of t c.callee) field m c.args (owner_of c.callee) e

-- a method is invoked
called_member : (s : Option Source) (member : Member) (m : ℕ) (args : List Value) (owner : Owner) → option_and_then member_in s ≡ Some member → call_source s m args owner ≡ invoke m member args owner
called_member None member m args owner e = absurd cc
called_member (Some (Source.ProducerField f)) member m args owner e = absurd cc
called_member (Some (Source.ProducerMethod x)) member m args owner e = let q : x ≡ member = cc in ap (λ y. invoke m y args owner) q

-- what is neither isn't there
called_missing : (s : Option Source) (m : ℕ) (args : List Value) (owner : Owner) → option_and_then field_in s ≡ None → option_and_then member_in s ≡ None → call_source s m args owner ≡ tell_missing
called_missing None m args owner e f = refl
called_missing (Some (Source.ProducerMethod member)) m args owner e f = absurd cc
called_missing (Some (Source.ProducerField field)) m args owner e f = absurd cc

-- how a look-up that finds nothing ends, and what is raised
abbrev raising : BuiltIn → Next
raising x = nexts.Finished (outcomes.Ends (completions.Threw (number_of x)))

abbrev missed : Next
missed = raising built_in.IllegalStateException

module _ (t : Tables) where
  pub call_missing : (c : ContainerCall) (m : ℕ) (w : World) → field_of t c.callee ≡ None → member_of t c.callee ≡ None
      → next_stop t (call_on t c m) w ≡ (throw (number_of built_in.IllegalStateException), w)
  call_missing c m w e f = ap (λ p. next_stop t p w) (called_missing (source_of t c.callee) m c.args (owner_of c.callee) e f)

  -- ---- a producer field

  pub read_missing : (m field : ℕ) (w : World) → instance_at w m ≡ None → next_stop t (read_field m field) w ≡ (throw (number_of built_in.IllegalStateException), w)
  read_missing m field w e = ap (λ x. next_stop t (require_present x >>= λ (o : Instance). require_present (at o.fields field) >>= λ v. ret (Result v)) w) e

  has_none : (fields : Fields) (field : ℕ) → has fields field ≡ false → at fields field ≡ None
  has_none [] field e = refl
  has_none (f ∷ fs) field e =
      elim (nat_eq field f.0) as (λ b. nat_eq field f.0 ≡ b → at (f ∷ fs) field ≡ None) [
        | true ↦ λ h. absurd (let r = rw h at e in cc)
        | false ↦ λ h. rw h (has_none fs field (rw h at e))
      ] refl

  has_one : (fields : Fields) (field : ℕ) → has fields field ≡ true → at fields field ≡ Some (get fields field)
  has_one [] field e = absurd cc
  has_one (f ∷ fs) field e =
      elim (nat_eq field f.0) as (λ b. nat_eq field f.0 ≡ b → at (f ∷ fs) field ≡ Some (get (f ∷ fs) field)) [
        | true ↦ λ h. rw h refl
        | false ↦ λ h. rw h (has_one fs field (rw h at e))
      ] refl

  pub read_absent : (m field : ℕ) (o : Instance) (w : World) → instance_at w m ≡ Some o → has o.fields field ≡ false → next_stop t (read_field m field) w ≡ (throw (number_of built_in.IllegalStateException), w)
  read_absent m field o w e f =
      ap (λ x. next_stop t (require_present x >>= λ (o : Instance). require_present (at o.fields field) >>= λ v. ret (Result v)) w) e
      ∙ ap (λ x. next_stop t (require_present x >>= λ v. ret (Result v)) w) (has_none o.fields field f)

  pub read_there : (m field : ℕ) (o : Instance) (w : World) → instance_at w m ≡ Some o → has o.fields field ≡ true → next_stop t (read_field m field) w ≡ (ret (Result (get o.fields field)), w)
  read_there m field o w e f =
      ap (λ x. next_stop t (require_present x >>= λ (o : Instance). require_present (at o.fields field) >>= λ v. ret (Result v)) w) e
      ∙ ap (λ x. next_stop t (require_present x >>= λ v. ret (Result v)) w) (has_one o.fields field f)

  -- ---- the receiver

  pub begin_leads : (c : Box ContainerCall) (w : World) → MovesTo t (tasks.Calling c) w (nexts.Needs (tasks.Receiving c) frames.Using) (after_change Change.Borrow w)
  begin_leads c w = Comes.looks (Comes.within 2 refl)

  abbrev made_for : ℕ → Bool → Prog Reference
  made_for b x = elim x [ true ↦ ret (Proxy b) | false ↦ (call (machine.Create b owners.Borrower) >>= λ made. ret (direct_reference made)) ]

  abbrev receiving : ContainerCall → Option Bean → Prog Given
  receiving c x = ((require_present x >>= λ bean. made_for c.declaring (is_normal bean.scope)) >>= reach_instance) >>= call_on t c

  pub receive_missing : (c : Box ContainerCall) (w : World) → option_map head_of (t.bean c.value.declaring) ≡ None
      → MovesTo t (tasks.Receiving c) w missed w
  receive_missing c w e = Comes.same (ap (λ x. next_stop t (receiving c.value x) w) (is_absent (t.bean c.value.declaring) e))

  normal_is : (b : ℕ) (head : BeanHead) (x : Bool) (h : IsThere (t.bean b) head) → is_normal head.scope ≡ x → is_normal h.bean.scope ≡ x
  normal_is b head x h e = ap (λ (y : BeanHead). is_normal y.scope) h.headed ∙ e

  received_by : (c : ContainerCall) (head : BeanHead) (x : Bool) (w : World) (h : IsThere (t.bean c.declaring) head) → is_normal head.scope ≡ x
      → next_stop t (receiving c (t.bean c.declaring)) w ≡ next_stop t ((made_for c.declaring x >>= reach_instance) >>= call_on t c) w
  received_by c head x w h e =
      ap (λ y. next_stop t (receiving c y) w) h.there
      ∙ ap (λ y. next_stop t ((made_for c.declaring y >>= reach_instance) >>= call_on t c) w) (normal_is c.declaring head x h e)

  pub receive_obtains : (c : Box ContainerCall) (head : BeanHead) (w : World) (h : IsThere (t.bean c.value.declaring) head) → is_normal head.scope ≡ true
      → MovesTo t (tasks.Receiving c) w (nexts.Needs (tasks.Start (calls.Obtain c.value.declaring)) (frames.Received c)) w
  receive_obtains c head w h e = Comes.awaits (received_by c.value head true w h e) (λ r u. Comes.looks (Comes.within 0 refl))

  pub receive_makes : (c : Box ContainerCall) (head : BeanHead) (w : World) (h : IsThere (t.bean c.value.declaring) head) → is_normal head.scope ≡ false
      → MovesTo t (tasks.Receiving c) w (nexts.Needs (tasks.Start (calls.Create c.value.declaring owners.Borrower)) (frames.Lent c)) w
  receive_makes c head w h e = Comes.awaits (received_by c.value head false w h e) (λ r u. Comes.looks (Comes.within 0 refl))

  -- an instance was obtained
  pub received_number : (c : Box ContainerCall) (n : ℕ) (next : Next) (w v : World) → ComesTo t (call_on t c.value n) w next v
      → WaitsTo t (frames.Received c) (completions.Gave (givens.Number n)) w next v
  received_number c n next w v h = behind_look h

  pub received_value : (c : Box ContainerCall) (x : Value) (w : World) → WaitsTo t (frames.Received c) (completions.Gave (givens.Result x)) w missed w
  received_value c x w = Comes.same refl

  pub received_none : (c : Box ContainerCall) (w : World) → WaitsTo t (frames.Received c) (completions.Gave givens.Empty) w missed w
  received_none c w = Comes.same refl

  -- one was made
  pub lent_number : (c : Box ContainerCall) (n : ℕ) (next : Next) (w v : World) → stays (instance_at w n) ≡ true → ComesTo t (call_on t c.value n) w next v
      → WaitsTo t (frames.Lent c) (completions.Gave (givens.Number n)) w next v
  lent_number c n next w v e h =
      behind_look (behind_look (subst (λ x. ComesTo t ((machine.require x built_in.IllegalStateException >> ret n) >>= call_on t c.value) w next v) (sym e) h))

  pub lent_gone : (c : Box ContainerCall) (n : ℕ) (w : World) → stays (instance_at w n) ≡ false
      → WaitsTo t (frames.Lent c) (completions.Gave (givens.Number n)) w (raising built_in.IllegalStateException) w
  lent_gone c n w e = Comes.same (ap (λ x. next_stop t ((machine.require x built_in.IllegalStateException >> ret n) >>= call_on t c.value) w) e)

  pub lent_value : (c : Box ContainerCall) (x : Value) (w : World) → WaitsTo t (frames.Lent c) (completions.Gave (givens.Result x)) w (raising built_in.NullPointerException) w
  lent_value c x w = Comes.same refl

  pub lent_none : (c : Box ContainerCall) (w : World) → WaitsTo t (frames.Lent c) (completions.Gave givens.Empty) w (raising built_in.NullPointerException) w
  lent_none c w = Comes.same refl

  -- ---- the invocation

  abbrev exiting : Prog Given → Prog Given
  exiting p = finally p (alter Change.Exit)

  -- its parameters get their references, and then its chain runs
  provided : (m : Member) (owner : Owner) → (provide m.points owner >> call (machine.Rest m.chain)) ≡ supply_behind (Some m) owner []
  provided m owner = bind_after (resolve_points m.points owner) (λ rs. alter (Change.Provide rs)) (λ _. call (machine.Rest m.chain))

  supplies : (c : ContainerCall) (m : Member) (p : CallParameters) → member_of t c.callee ≡ Some m → p ≡ record { callee = c.callee; references = [] }
      → supply_behind (Some m) (owner_of c.callee) [] ≡ supply t p
  supplies c m p e f = ap (λ x. supply_behind x (owner_of c.callee) []) (sym e) ∙ ap (supply t) (sym f)

  pub invoke_leads : (c : ContainerCall) (n : ℕ) (m : Member) (p : Box CallParameters) (i : Invocation) (w : World) → member_of t c.callee ≡ Some m
      → p.value ≡ record { callee = c.callee; references = [] } → i ≡ invocation_at_start n roles.AroundInvoke (m.code ∷ []) c.args
      → ComesTo t (call_on t c n) w (nexts.Needs (tasks.Supplying p) frames.Exiting) (after_change (Change.Enter i) w)
  invoke_leads c n m p i w e f k =
      rw k
      (Comes.looks
      (Comes.within 1
      (ap (λ q. after_steps 1 t q w) (called_member (source_of t c.callee) m n c.args (owner_of c.callee) e)
      ∙ ap (λ q. (exiting q, after_change (Change.Enter (invocation_at_start n roles.AroundInvoke (m.code ∷ []) c.args)) w)) (provided m (owner_of c.callee) ∙ supplies c m p.value e f))))

  -- ---- its parameters

  behind : {X : Type 0} (xs : List X) (k : ℕ) (x : X) → slice_get xs k ≡ Some x → drop k xs ≡ x ∷ drop (suc k) xs
  behind [] k x e = absurd cc
  behind (y ∷ ys) zero x e = let q : y ≡ x = cc in ap (λ z. z ∷ ys) q
  behind (y ∷ ys) (suc k) x e = behind ys k x e

  beyond : {X : Type 0} (xs : List X) (k : ℕ) → slice_get xs k ≡ None → drop k xs ≡ []
  beyond [] zero e = refl
  beyond [] (suc k) e = refl
  beyond (y ∷ ys) zero e = absurd cc
  beyond (y ∷ ys) (suc k) e = beyond ys k e

  one_more : (rs : List Reference) (r : Reference) → length (rs ++ r ∷ []) ≡ suc (length rs)
  one_more [] r = refl
  one_more (x ∷ xs) r = ap suc (one_more xs r)

  -- a reference more lowers the rank, and what is called stays
  pub supply_lowers : (p o : CallParameters) (r : Reference) → o ≡ record p { references = p.references ++ r ∷ [] } → length p.references < 2 ^ 64 → suc (supply_rank o) < supply_rank p
  supply_lowers p o r e few = let n = one_more p.references r in rw e (omega (arith, n, few))

  pub supply_known : (p o : CallParameters) (rs : List Reference) → o ≡ record p { references = rs } → KnownCallee t p.callee → KnownCallee t o.callee
  supply_known p o rs e h = rw e h

  -- the first of the points that are left, and then the others
  points_first : (m : Member) (owner : Owner) (point : Asked) (points : List Asked) (rs : List Reference)
      → (resolve_points (point ∷ points) owner >>= λ others. run_with m (rs ++ others))
      ≡ (resolve_point point owner >>= λ r. resolve_points points owner >>= λ others. run_with m ((rs ++ r ∷ []) ++ others))
  points_first m owner point points rs =
      bind_after (resolve_point point owner) (λ r. resolve_points points owner >>= λ others. ret (r ∷ others)) (λ others. run_with m (rs ++ others))
      ∙ ap (λ k. resolve_point point owner >>= k)
      (fun_ext (λ r.
      bind_after (resolve_points points owner) (λ others. ret (r ∷ others)) (λ others. run_with m (rs ++ others))
      ∙ ap (λ k. resolve_points points owner >>= k) (fun_ext (λ others. ap (run_with m) (sym (append_assoc rs (r ∷ []) others))))))

  supply_first : (m : Member) (owner : Owner) (point : Asked) (rs : List Reference) → slice_get m.points (length rs) ≡ Some point
      → supply_behind (Some m) owner rs ≡ (resolve_point point owner >>= λ r. supply_behind (Some m) owner (rs ++ r ∷ []))
  supply_first m owner point rs e =
      ap (λ ps. resolve_points ps owner >>= λ others. run_with m (rs ++ others)) (behind m.points (length rs) point e)
      ∙ points_first m owner point (drop (suc (length rs)) m.points) rs
      ∙ ap (λ k. resolve_point point owner >>= k)
      (fun_ext (λ r. ap (λ n. resolve_points (drop n m.points) owner >>= λ others. run_with m ((rs ++ r ∷ []) ++ others)) (sym (one_more rs r))))

  pub supply_missing : (p : Box CallParameters) (w : World) → member_of t p.value.callee ≡ None → MovesTo t (tasks.Supplying p) w missed w
  supply_missing p w e = Comes.same (ap (λ x. next_stop t (supply_behind x (owner_of p.value.callee) p.value.references) w) e)

  pub supply_runs : (p : Box CallParameters) (m : Member) (chain : List ℕ) (w : World) → member_of t p.value.callee ≡ Some m → slice_get m.points (length p.value.references) ≡ None → chain ≡ m.chain
      → MovesTo t (tasks.Supplying p) w (nexts.Goes (tasks.Start (calls.Rest chain))) (after_change (Change.Provide p.value.references) w)
  supply_runs p m chain w e f k =
      Comes.same
      (ap (λ x. next_stop t (supply_behind x (owner_of p.value.callee) p.value.references) w) e
      ∙ ap (λ ps. next_stop t (resolve_points ps (owner_of p.value.callee) >>= λ others. run_with m (p.value.references ++ others)) w) (beyond m.points (length p.value.references) f)
      ∙ ap (λ rs. (call (machine.Rest m.chain), after_change (Change.Provide rs) w)) (append-nil p.value.references)
      ∙ ap (λ c. (call (machine.Rest c), after_change (Change.Provide p.value.references) w)) (sym k))

  pub supply_ends : (p : CallParameters) (m : CodeMember) (i : ℕ) → i ≡ length p.references → slice_get m.points i ≡ None → slice_get (member_told m).points (length p.references) ≡ None
  supply_ends p m i e f = subst (λ k. slice_get (map point_told m.points) k ≡ None) e (points_told m.points i f)

  -- the next point resolves as it is told
  pub has_next : (p : CallParameters) (m : CodeMember) (x : CodePoint) (i : ℕ) → member_of t p.callee ≡ Some (member_told m) → IsResolvedMember t.resolve m → i ≡ length p.references → slice_get m.points i ≡ Some x
      → HasNextResolution t p (machine_resolution x.resolution)
  has_next p m x i e all f k =
      record {
        member = member_told m;
        point = point_told x;
        stands = record { member = e; next = subst (λ j. slice_get (map point_told m.points) j ≡ Some (point_told x)) f (told_at m.points i x k) };
        resolves = sym (point_resolved t.resolve m.points i x all k);
      }

  -- what is left once the next parameter has its reference
  abbrev going_on : CallParameters → Member → Reference → Prog Given
  going_on p m r = supply_behind (Some m) (owner_of p.callee) (p.references ++ r ∷ [])

  supply_next : (p : CallParameters) (m : Member) (point : Asked) → IsNextCallPoint t p m point → supply t p ≡ (resolve_point point (owner_of p.callee) >>= going_on p m)
  supply_next p m point h = ap (λ x. supply_behind x (owner_of p.callee) p.references) h.member ∙ supply_first m (owner_of p.callee) point p.references h.next

  went_on : (p o : CallParameters) (m : Member) (point : Asked) (r : Reference) → IsNextCallPoint t p m point → o ≡ record p { references = p.references ++ r ∷ [] } → going_on p m r ≡ supply t o
  went_on p o m point r h e = ap (λ x. supply_behind x (owner_of p.callee) (p.references ++ r ∷ [])) (sym h.member) ∙ ap (supply t) (sym e)

  module _ (p : Box CallParameters) (w : World) where
    abbrev owner : Owner
    owner = owner_of p.value.callee

    -- the same, by what the point resolves to
    abbrev by_resolution : Member → Resolution → Prog Given
    by_resolution m x = (require_one x >>= λ b. refer_to b owner) >>= going_on p.value m

    resolved : (x : Resolution) (h : HasNextResolution t p.value x) → next_stop t (supply t p.value) w ≡ next_stop t (by_resolution h.member x) w
    resolved x h =
        ap (λ q. next_stop t q w) (supply_next p.value h.member h.point h.stands)
        ∙ ap (λ y. next_stop t (by_resolution h.member y) w) h.resolves

    pub refer_nothing : HasNextResolution t p.value Resolution.Nothing → MovesTo t (tasks.Supplying p) w (raising built_in.UnsatisfiedResolutionException) w
    refer_nothing h = Comes.same (resolved Resolution.Nothing h)

    pub refer_many : HasNextResolution t p.value Resolution.Many → MovesTo t (tasks.Supplying p) w (raising built_in.AmbiguousResolutionException) w
    refer_many h = Comes.same (resolved Resolution.Many h)

    abbrev by_scope : ℕ → Bool → Prog Reference
    by_scope b x = elim x [ true ↦ ret (Proxy b) | false ↦ (call (machine.Create b owner) >>= λ made. ret (direct_reference made)) ]

    abbrev by_bean : Member → ℕ → Option Bean → Prog Given
    by_bean m b x = (require_present x >>= λ (bean : Bean). by_scope b (is_normal bean.scope)) >>= going_on p.value m

    found : (m : Member) (b : ℕ) → next_stop t (by_resolution m (One b)) w ≡ next_stop t (by_bean m b (t.bean b)) w
    found m b = refl

    pub refer_missing : (b : ℕ) → HasNextResolution t p.value (One b) → option_map head_of (t.bean b) ≡ None → MovesTo t (tasks.Supplying p) w missed w
    refer_missing b h e = Comes.same (resolved (One b) h ∙ ap (λ x. next_stop t (by_bean h.member b x) w) (is_absent (t.bean b) e))

    resolved_after : (b : ℕ) (h : HasNextResolution t p.value (One b)) → after_steps 2 t (supply t p.value) w ≡ (by_bean h.member b (t.bean b), w)
    resolved_after b h =
        ap (λ q. after_steps 2 t q w) (supply_next p.value h.member h.point h.stands)
        ∙ ap (λ y. after_steps 1 t (by_resolution h.member y) w) h.resolves

    by_normal : (b : ℕ) (head : BeanHead) (x : Bool) (m : Member) (there : IsThere (t.bean b) head) → is_normal head.scope ≡ x → by_bean m b (t.bean b) ≡ (by_scope b x >>= going_on p.value m)
    by_normal b head x m there e =
        ap (λ y. by_bean m b y) there.there ∙ ap (λ y. by_scope b y >>= going_on p.value m) (normal_is b head x there e)

    pub refer_proxy : (b : ℕ) (head : BeanHead) (o : Box CallParameters) (h : HasNextResolution t p.value (One b)) → IsThere (t.bean b) head → is_normal head.scope ≡ true
        → o.value ≡ record p.value { references = p.value.references ++ Proxy b ∷ [] }
        → MovesTo t (tasks.Supplying p) w (nexts.Goes (tasks.Supplying o)) w
    refer_proxy b head o h there e f =
        Comes.looks
        (behind_look
        (Comes.within 2
        (resolved_after b h
        ∙ ap (λ q. (q, w)) (by_normal b head true h.member there e ∙ went_on p.value o.value h.member h.point (Proxy b) h.stands f))))

    pub refer_dependent : (b : ℕ) (head : BeanHead) (h : HasNextResolution t p.value (One b)) → IsThere (t.bean b) head → is_normal head.scope ≡ false
        → MovesTo t (tasks.Supplying p) w (nexts.Needs (tasks.Start (calls.Create b owner)) (frames.Supplied p)) w
    refer_dependent b head h there e =
        Comes.awaits
        (resolved (One b) h ∙ ap (λ q. next_stop t q w) (by_normal b head false h.member there e))
        (λ r u. Comes.looks (Comes.within 0 (ap (λ q. (q, u)) (ap (λ x. (complete r >>= λ made. ret (direct_reference made)) >>= λ y. supply_behind x owner (p.value.references ++ y ∷ [])) (sym h.stands.member)))))

    pub supplied_leads : (g : CodeGiven) (o : Box CallParameters) → o.value ≡ record p.value { references = p.value.references ++ direct_reference (given_of g) ∷ [] }
        → WaitsTo t (frames.Supplied p) (completions.Gave g) w (nexts.Goes (tasks.Supplying o)) w
    supplied_leads g o e = Comes.looks (Comes.within 1 (ap (λ q. (q, w)) (ap (supply t) (sym e))))
