-- What a script does next lies in its shape. Each step has a line in each of two lemmas: `with_action-grows`, that what was
-- listed stays so, and `act_of-in_shape`, that its act lies in the shape with what it names.
use Rattle.std.proofs.Common.{◌≡◌, ◌∙◌, sym, ap, subst, refl, ℕ, ◌+◌, ◌-◌, ◌<◌, ◌==◌, ◌&&◌, ◌||◌, Bool, true, false, cond, List, [], ◌∷◌, ◌++◌, length, fold, Option, Some, None, nat_eq, nat_lt, length-append, append_assoc, append-nil, arith}
use Rattle.std.proofs.lemmas.Bool.{lt-ltb}
use borrow.Author.Tests.{ltb-true}
use Rattle.std.proofs.lemmas.List.{length-map}
use Rattle.std.proofs.lemmas.List.Folds.{list_any-append}
use Rattle.std.specs.List.{list_any}
use Rattle.cdi_base.specs.declared.act.Act.{Act}
use Rattle.cdi_base.specs.declared.act.Act.TheVariants as acts
use Rattle.cdi_base.specs.declared.act.Answer.{Answer}
use Rattle.cdi_base.specs.declared.act.Answer.TheVariants as answers
use Rattle.cdi_base.specs.declared.act.Via.{Via}
use Rattle.cdi_base.specs.declared.act.Via.TheVariants as vias
use Rattle.cdi_base.specs.declared.fields.Fields.{Fields}
use Rattle.cdi_bodies.specs.declared.shape.Shape.{Shape}
use Rattle.cdi_bodies.specs.declared.shape.MethodCall.{MethodCall}
use Rattle.cdi_bodies.specs.declared.shape.OwnCall.{OwnCall}
use Rattle.cdi_bodies.specs.declared.shape.FiredEvent.{FiredEvent}
use Rattle.cdi_bodies.specs.declared.shape.Lookup.{Lookup}
use Rattle.cdi_bodies.specs.declared.view.View.{View}
use Rattle.cdi_bodies.specs.Events.{same_qualifiers}
use Rattle.cdi_bodies.specs.Shape.{in_shape, no_acts, last_answer, is_thrown, via_eq}
use Rattle.cdi_bodies.proofs.Events.{reflexive}
use Rattle.cdi_script.specs.declared.step.Action.{Action}
use Rattle.cdi_script.specs.declared.step.Action.TheVariants as actions
use Rattle.cdi_script.specs.declared.step.Step.{Step}
use Rattle.cdi_script.specs.Listed.{shape_of}
use Rattle.cdi_script.specs.Next.{end_act, act_at, lookups_in, next_of}
use Rattle.cdi_bodies.specs.Answers.{threw}
use Rattle.cdi_script.specs.Reached.{is_wanted, from_next, passed, after_answer, reached}
use Rattle.cdi_script.specs.Step.{act_of, is_lookup, with_action}
use Rattle.cdi_script.specs.Term.{Term}
use Rattle.cdi_script.specs.Value.{values_of}
use Rattle.cdi_script.specs.Within.{StaysInShape}

-- each is equal to itself
nat-self : (n : ℕ) → nat_eq n n ≡ true
nat-self n = grind arith

both : (a b : Bool) → a ≡ true → b ≡ true → (a && b) ≡ true
both a b p q = rw (p, q) refl

via-self : (v : Via) → via_eq v v ≡ true
via-self (vias.Field name) = nat-self name
via-self (vias.Param k) = nat-self k
via-self (vias.Local k) = nat-self k

either-true : (a b : Bool) → b ≡ true → (a || b) ≡ true
either-true true b h = refl
either-true false b h = h

either-kept : (a b : Bool) → a ≡ true → (a || b) ≡ true
either-kept a b h = rw h refl

either-of : (a b c : Bool) → (a ≡ true → c ≡ true) → (a || b) ≡ true → (c || b) ≡ true
either-of true b c more h = either-kept c b (more refl)
either-of false b c more h = either-true c b h

at_end : {X : Type 0} (p : X → Bool) (xs : List X) (x : X) → p x ≡ true → list_any p (xs ++ x ∷ []) ≡ true
at_end p xs x h = list_any-append p xs (x ∷ []) ∙ either-true (list_any p xs) _ (either-kept (p x) false h)

-- a list that goes on with more
record Extends {X : Type 0} (xs ys : List X) : Type 0 where
  more : List X
  is : xs ++ more ≡ ys

module _ {X : Type 0} where
  same : (xs : List X) → Extends xs xs
  same xs = record { more = []; is = append-nil xs }

  one_more : (xs : List X) (x : X) → Extends xs (xs ++ x ∷ [])
  one_more xs x = record { more = x ∷ []; is = refl }

  any-extends : (p : X → Bool) (xs ys : List X) → Extends xs ys → list_any p xs ≡ true → list_any p ys ≡ true
  any-extends p xs ys e h = ap (list_any p) (sym e.is) ∙ list_any-append p xs e.more ∙ either-kept (list_any p xs) _ h

  index-extends : (k : ℕ) (xs ys : List X) → Extends xs ys → nat_lt k (length xs) ≡ true → nat_lt k (length ys) ≡ true
  index-extends k xs ys e h =
      let below : k < length xs = ltb-true k (length xs) h in
      let longer : length xs + length e.more ≡ length ys = sym (length-append xs e.more) ∙ ap length e.is in
      lt-ltb _ _ (omega arith)

-- a shape that goes on with more
record Grows (old new : Shape) : Type 0 where
  sets : Extends old.sets new.sets
  calls : Extends old.calls new.calls
  owns : Extends old.owns new.owns
  cells : Extends old.cells new.cells
  fires : Extends old.fires new.fires
  lookups : Extends old.lookups new.lookups
  destroys : Extends old.destroys new.destroys
  throws : Extends old.throws new.throws
  chain : old.chain ≡ true → new.chain ≡ true

-- an act that lies in a shape lies in each that goes on
in_shape-grows : (old new : Shape) (view : View) (act : Act) → Grows old new → in_shape old view act ≡ true → in_shape new view act ≡ true
in_shape-grows old new view (acts.Set field value) g h = any-extends (λ f. f == field) old.sets new.sets g.sets h
in_shape-grows old new view (acts.Call via method args) g h =
    any-extends (λ c. via_eq c.via via && (c.method == method) && (c.count == length args)) old.calls new.calls g.calls h
in_shape-grows old new view (acts.Own method args) g h = any-extends (λ c. (c.method == method) && (c.count == length args)) old.owns new.owns g.owns h
in_shape-grows old new view (acts.Read via) g h = any-extends (λ v. via_eq v via) old.cells new.cells g.cells h
in_shape-grows old new view (acts.Write via value) g h = any-extends (λ v. via_eq v via) old.cells new.cells g.cells h
in_shape-grows old new view (acts.Fire class qualifiers value) g h =
    any-extends (λ e. (e.class == class) && same_qualifiers e.qualifiers qualifiers) old.fires new.fires g.fires h
in_shape-grows old new view (acts.Proceed args) g h = g.chain h
in_shape-grows old new view (acts.Find lookup) g h = index-extends lookup old.lookups new.lookups g.lookups h
in_shape-grows old new view (acts.Keep key value) g h = g.chain h
in_shape-grows old new view (acts.Peek key) g h = g.chain h
in_shape-grows old new view (acts.Destroy local) g h = any-extends (λ k. k == local) old.destroys new.destroys g.destroys h
in_shape-grows old new view (acts.Give value) g h = refl
in_shape-grows old new view (acts.Throw exception) g h =
    either-of (list_any (λ x. x == exception) old.throws) _ (list_any (λ x. x == exception) new.throws) (any-extends (λ x. x == exception) old.throws new.throws g.throws) h

-- one thing listed more
module _ (s : Shape) where
  nothing : Grows s s
  nothing = record { sets = same s.sets; calls = same s.calls; owns = same s.owns; cells = same s.cells; fires = same s.fires; lookups = same s.lookups; destroys = same s.destroys; throws = same s.throws; chain = λ h. h }

  a_set : (x : ℕ) → Grows s (record s { sets = s.sets ++ x ∷ [] })
  a_set x = record { sets = one_more s.sets x; calls = same s.calls; owns = same s.owns; cells = same s.cells; fires = same s.fires; lookups = same s.lookups; destroys = same s.destroys; throws = same s.throws; chain = λ h. h }

  a_call : (x : MethodCall) → Grows s (record s { calls = s.calls ++ x ∷ [] })
  a_call x = record { sets = same s.sets; calls = one_more s.calls x; owns = same s.owns; cells = same s.cells; fires = same s.fires; lookups = same s.lookups; destroys = same s.destroys; throws = same s.throws; chain = λ h. h }

  an_own : (x : OwnCall) → Grows s (record s { owns = s.owns ++ x ∷ [] })
  an_own x = record { sets = same s.sets; calls = same s.calls; owns = one_more s.owns x; cells = same s.cells; fires = same s.fires; lookups = same s.lookups; destroys = same s.destroys; throws = same s.throws; chain = λ h. h }

  a_cell : (x : Via) → Grows s (record s { cells = s.cells ++ x ∷ [] })
  a_cell x = record { sets = same s.sets; calls = same s.calls; owns = same s.owns; cells = one_more s.cells x; fires = same s.fires; lookups = same s.lookups; destroys = same s.destroys; throws = same s.throws; chain = λ h. h }

  a_fire : (x : FiredEvent) → Grows s (record s { fires = s.fires ++ x ∷ [] })
  a_fire x = record { sets = same s.sets; calls = same s.calls; owns = same s.owns; cells = same s.cells; fires = one_more s.fires x; lookups = same s.lookups; destroys = same s.destroys; throws = same s.throws; chain = λ h. h }

  a_lookup : (x : Lookup) → Grows s (record s { lookups = s.lookups ++ x ∷ [] })
  a_lookup x = record { sets = same s.sets; calls = same s.calls; owns = same s.owns; cells = same s.cells; fires = same s.fires; lookups = one_more s.lookups x; destroys = same s.destroys; throws = same s.throws; chain = λ h. h }

  a_destroy : (x : ℕ) → Grows s (record s { destroys = s.destroys ++ x ∷ [] })
  a_destroy x = record { sets = same s.sets; calls = same s.calls; owns = same s.owns; cells = same s.cells; fires = same s.fires; lookups = same s.lookups; destroys = one_more s.destroys x; throws = same s.throws; chain = λ h. h }

  a_throw : (x : ℕ) → Grows s (record s { throws = s.throws ++ x ∷ [] })
  a_throw x = record { sets = same s.sets; calls = same s.calls; owns = same s.owns; cells = same s.cells; fires = same s.fires; lookups = same s.lookups; destroys = same s.destroys; throws = one_more s.throws x; chain = λ h. h }

  a_chain : Grows s (record s { chain = true })
  a_chain = record { sets = same s.sets; calls = same s.calls; owns = same s.owns; cells = same s.cells; fires = same s.fires; lookups = same s.lookups; destroys = same s.destroys; throws = same s.throws; chain = λ h. refl }

-- what an action names is listed more
with_action-grows : (shape : Shape) (a : Action) → Grows shape (with_action shape a)
with_action-grows shape (actions.Set field value) = a_set shape field
with_action-grows shape (actions.Call via method args) = a_call shape _
with_action-grows shape (actions.Own method args) = an_own shape _
with_action-grows shape (actions.Read via) = a_cell shape via
with_action-grows shape (actions.Write via value) = a_cell shape via
with_action-grows shape (actions.Fire class qualifiers value) = a_fire shape _
with_action-grows shape actions.Proceed = a_chain shape
with_action-grows shape (actions.ProceedWith args) = a_chain shape
with_action-grows shape (actions.Find bean_type qualifiers) = a_lookup shape _
with_action-grows shape (actions.Destroy local) = a_destroy shape local
with_action-grows shape (actions.Keep key value) = a_chain shape
with_action-grows shape (actions.Peek key) = a_chain shape
with_action-grows shape (actions.Give value) = nothing shape
with_action-grows shape (actions.Throw exception) = a_throw shape exception

-- an action that makes a lookup lists one
lookups-with_action : (shape : Shape) (a : Action) → length (with_action shape a).lookups ≡ length shape.lookups + cond (is_lookup a) 1 0
lookups-with_action shape (actions.Find bean_type qualifiers) = length-append shape.lookups _
lookups-with_action shape a = omega arith

-- as many values are given as expressions
as_many : (args : List Term) (fields : Fields) (view : View) → (length args == length (values_of args fields view)) ≡ true
as_many args fields view = rw length-map (nat-self (length args))

-- the act of an action lies in the shape with what the action names
act_of-in_shape : (shape : Shape) (lookup : ℕ) (a : Action) (fields : Fields) (view : View) → lookup ≡ length shape.lookups
    → in_shape (with_action shape a) view (act_of lookup a fields view) ≡ true
act_of-in_shape shape k (actions.Set field value) fields view n = at_end (λ f. f == field) shape.sets field (nat-self field)
act_of-in_shape shape k (actions.Call via method args) fields view n =
    at_end (λ c. via_eq c.via via && (c.method == method) && (c.count == length (values_of args fields view))) shape.calls _ (both _ _ (both _ _ (via-self via) (nat-self method)) (as_many args fields view))
act_of-in_shape shape k (actions.Own method args) fields view n =
    at_end (λ c. (c.method == method) && (c.count == length (values_of args fields view))) shape.owns _ (both _ _ (nat-self method) (as_many args fields view))
act_of-in_shape shape k (actions.Read via) fields view n = at_end (λ v. via_eq v via) shape.cells via (via-self via)
act_of-in_shape shape k (actions.Write via value) fields view n = at_end (λ v. via_eq v via) shape.cells via (via-self via)
act_of-in_shape shape k (actions.Fire class qualifiers value) fields view n =
    at_end (λ e. (e.class == class) && same_qualifiers e.qualifiers qualifiers) shape.fires _ (both _ _ (nat-self class) (reflexive qualifiers))
act_of-in_shape shape k actions.Proceed fields view n = refl
act_of-in_shape shape k (actions.ProceedWith args) fields view n = refl
act_of-in_shape shape k (actions.Find bean_type qualifiers) fields view n = lt-ltb _ _ (omega (arith, length-append shape.lookups (record { bean_type = bean_type; qualifiers = qualifiers } ∷ [])))
act_of-in_shape shape k (actions.Destroy local) fields view n = at_end (λ j. j == local) shape.destroys local (nat-self local)
act_of-in_shape shape k (actions.Keep key value) fields view n = refl
act_of-in_shape shape k (actions.Peek key) fields view n = refl
act_of-in_shape shape k (actions.Give value) fields view n = refl
act_of-in_shape shape k (actions.Throw exception) fields view n = either-kept _ _ (at_end (λ x. x == exception) shape.throws exception (nat-self exception))

abbrev all_listed : Shape → List Step → Shape
all_listed shape steps = fold (λ s step. with_action s step.action) shape steps

stays : (steps : List Step) (shape : Shape) (view : View) (act : Act) → in_shape shape view act ≡ true → in_shape (all_listed shape steps) view act ≡ true
stays [] shape view act h = h
stays (step ∷ steps) shape view act h =
    stays steps (with_action shape step.action) view act (in_shape-grows shape (with_action shape step.action) view act (with_action-grows shape step.action) h)

act_of-listed : (front : List Step) (step : Step) (more : List Step) (shape : Shape) (lookup : ℕ) (fields : Fields) (view : View) → lookup ≡ length shape.lookups + lookups_in front
    → in_shape (all_listed shape (front ++ step ∷ more)) view (act_of lookup step.action fields view) ≡ true
act_of-listed [] step more shape k fields view n =
    stays more (with_action shape step.action) view (act_of k step.action fields view) (act_of-in_shape shape k step.action fields view (omega arith))
act_of-listed (first ∷ front) step more shape k fields view n =
    act_of-listed front step more (with_action shape first.action) k fields view (omega (arith, lookups-with_action shape first.action))

lookups-append : (front back : List Step) → lookups_in (front ++ back) ≡ lookups_in front + lookups_in back
lookups-append [] back = omega arith
lookups-append (step ∷ front) back = omega (arith, lookups-append front back)

-- where no step is left
end_in : (shape : Shape) (view : View) (o : Option Answer) → last_answer view ≡ o → in_shape shape view (end_act o) ≡ true
end_in shape view (Some (answers.Threw x text)) h = either-true (list_any (λ y. y == x) shape.throws) (is_thrown x (last_answer view)) (rw h (nat-self x))
end_in shape view (Some (answers.Done value)) h = refl
end_in shape view (Some (answers.Found k)) h = refl
end_in shape view None h = refl

record IsEnd (back all : List Step) : Type 0 where
  front : List Step
  is : front ++ back ≡ all

end-of : (a b c : List Step) → IsEnd a b → IsEnd b c → IsEnd a c
end-of a b c p q = record { front = q.front ++ p.front; is = append_assoc q.front p.front a ∙ ap (λ (xs : List Step). q.front ++ xs) p.is ∙ q.is }

whole : (steps : List Step) → IsEnd steps steps
whole steps = record { front = []; is = refl }

behind : (step : Step) (back steps : List Step) → IsEnd back steps → IsEnd back (step ∷ steps)
behind step back steps p = record { front = step ∷ p.front; is = ap (λ (xs : List Step). step ∷ xs) p.is }

from_next-end : (catches : Bool) (steps : List Step) → IsEnd (from_next catches steps) steps
from_next-end catches [] = whole []
from_next-end catches (step ∷ steps) = by (from_next-end catches steps) (is_wanted catches step)
  where
    by : IsEnd (from_next catches steps) steps → (b : Bool) → IsEnd (cond b (step ∷ steps) (from_next catches steps)) (step ∷ steps)
    by later true = whole (step ∷ steps)
    by later false = behind step _ steps later

passed-end : (steps : List Step) → IsEnd (passed steps) steps
passed-end [] = whole []
passed-end (step ∷ steps) = behind step steps steps (whole steps)

after-end : (given : List Answer) (left steps : List Step) → IsEnd left steps → IsEnd (fold after_answer left given) steps
after-end [] left steps p = p
after-end (a ∷ given) left steps p =
    after-end given (after_answer left a) steps (end-of _ _ _ (from_next-end (threw a) (passed left)) (end-of _ _ _ (passed-end left) p))

reached-end : (steps : List Step) (given : List Answer) → IsEnd (reached steps given) steps
reached-end steps given = after-end given (from_next false steps) steps (from_next-end false steps)

at_in : (steps left : List Step) (fields : Fields) (view : View) → IsEnd left steps → in_shape (shape_of steps) view (act_at steps left fields view) ≡ true
at_in steps [] fields view p = end_in (shape_of steps) view (last_answer view) refl
at_in steps (step ∷ more) fields view p =
    let all : lookups_in p.front + lookups_in (step ∷ more) ≡ lookups_in steps = sym (lookups-append p.front (step ∷ more)) ∙ ap lookups_in p.is in
    let k : ℕ = lookups_in steps - lookups_in (step ∷ more) in
    let before : k ≡ length no_acts.lookups + lookups_in p.front = omega arith in
    subst (λ (xs : List Step). in_shape (shape_of xs) view (act_of k step.action fields view) ≡ true) p.is (act_of-listed p.front step more no_acts k fields view before)

pub next_of-in_shape : (steps : List Step) → StaysInShape steps
next_of-in_shape steps fields view = at_in steps (reached steps view.answers) fields view (reached-end steps view.answers)

-- what a caller needs of a body that does what the script does
pub lies : (steps : List Step) (shape : Shape) (fields : Fields) (view : View) (act : Act) → shape ≡ shape_of steps → act ≡ next_of steps fields view → in_shape shape view act ≡ true
lies steps shape fields view act is_shape is_act = rw (is_shape, is_act) (next_of-in_shape steps fields view)
