-- What the driver has been through from one step to the next.
use Rattle.std.proofs.Common.{◌≡◌, ◌+◌, ◌++◌, ◌∙◌, inl, inr, List, [], ◌∷◌, refl, ap, sym, subst, arith}
use Rattle.cdi_base.specs.declared.entry.Entry.{Entry}
use Rattle.cdi_base.specs.declared.entry.Entry.TheVariants as entries
use Rattle.cdi_base.specs.declared.reply.Cause.TheVariants as causes
use Rattle.cdi_machine.specs.declared.driver.Failure.{Failure}
use Rattle.cdi_machine.specs.declared.driver.Failure.TheVariants.{Memory}
use Rattle.cdi_machine.specs.World.{World}
use Rattle.cdi_machine.specs.Hearing.{Hearing, Ending, IsTold, with_asking, with_told, answers_of, after}
use Rattle.cdi_machine.proofs.Hearings.{told_once, answered_once}
use Rattle.cdi_steps.specs.Driving.{IsAskedFor, HasFailed, with_asked, heard_for}
use Rattle.cdi_steps.specs.Steps.{IsQuiet}
use Rattle.cdi_steps.specs.declared.task.Continuation.{Continuation}
use Rattle.cdi_steps.specs.declared.task.Outcome.{Outcome}
use Rattle.cdi_steps.specs.declared.task.Outcome.TheVariants as outcomes
use Rattle.cdi_steps.specs.declared.task.Task.{Task}
use Rattle.cdi_steps.specs.declared.task.Task.TheVariants as tasks
use Rattle.cdi_steps.specs.declared.task.Next.{Next}
use Rattle.cdi_steps.specs.declared.task.Next.TheVariants as nexts
use Rattle.cdi_frames.specs.Stacks.{pending_for}
use Rattle.cdi_frames.specs.Hearing.{IsCut, HasHeardUntil, HasHeardAt, HearsTurn, HearsOutcome, PassesCut, HasFailedAt, Written, Spent}
use Rattle.cdi_frames.specs.declared.stack.Pending.{Pending}
use Rattle.cdi_frames.specs.declared.stack.Pending.TheVariants as pendings
use Rattle.cdi_frames.specs.declared.stack.Stack.{Stack}
use Rattle.cdi_frames.specs.declared.stack.Turn.{Turn}
use Rattle.cdi_frames.specs.declared.stack.Turn.TheVariants as turns

-- ---- an entry that is due

-- it was asked for once, or not at all
data Asked (e : Entry) : Type 0 where
  never : answers_of e ≡ 0 → Asked e
  once : answers_of e ≡ 1 → Asked e

asked : (e : Entry) → Asked e
asked (entries.Did a) = Asked.once refl
asked (entries.Pick count choice) = Asked.once refl
asked (entries.New n place) = Asked.never refl
asked (entries.Ready n) = Asked.never refl
asked (entries.Drop n) = Asked.never refl
asked (entries.Run n place) = Asked.never refl
asked (entries.Event class uses) = Asked.never refl
asked (entries.End n) = Asked.never refl
asked (entries.Gone n) = Asked.never refl

with_none : (h : Hearing) (e : Entry) → answers_of e ≡ 0 → with_asked e h ≡ h
with_none h e none = let a : h.asked + answers_of e ≡ h.asked = omega (arith, none) in rw a refl

with_one : (h : Hearing) (e : Entry) → answers_of e ≡ 1 → with_asked e h ≡ with_asking h
with_one h e one = rw one refl

-- what is due was asked for nothing
pub asks_nothing : {heard : Hearing → Type 0} (next : Next) → IsQuiet next → IsAskedFor next heard heard
asks_nothing (nexts.Finished o) q = record { heard = λ h x. x }
asks_nothing (nexts.Goes p) q = record { heard = λ h x. x }
asks_nothing (nexts.Needs p k) q = record { heard = λ h x. x }
asks_nothing {heard} (nexts.Writes e a) q = record { heard = λ h x. subst heard (sym (with_none h e q)) x }

-- it is told, and written
told_due : (h : Hearing) (es : List Entry) (e : Entry) → with_told e (with_asked e (after h es)) ≡ after h (es ++ e ∷ [])
told_due h es e = by (asked e)
  where
    by : Asked e → with_told e (with_asked e (after h es)) ≡ after h (es ++ e ∷ [])
    by (Asked.never none) = ap (with_told e) (with_none (after h es) e none) ∙ told_once h es e none
    by (Asked.once one) = ap (with_told e) (with_one (after h es) e one) ∙ answered_once h es e one

module _ (heard : Hearing → Type 0) (w : World) (h : Hearing) where
  -- it has been through something in either case
  pub record HasHeardSome : Type 0 where
    pub hearing : Hearing
    pub told : hearing.told ≡ h.told ++ w.trace
    pub some : heard hearing

  some_until : (Cut : Type 0) → HasHeardUntil Cut heard w h → HasHeardSome
  some_until Cut x =
      elim x [
        | inl b ↦ record { hearing = after h w.trace; told = refl; some = b }
        | inr m ↦ let more = m.1 in record { hearing = with_asking (after h w.trace); told = refl; some = more.more }
      ]

  pub some_at : (d : Pending) → HasHeardAt d heard w h → HasHeardSome
  some_at (pendings.Does p) b = record { hearing = after h w.trace; told = refl; some = b }
  some_at (pendings.Gives o) b = some_until (IsCut o) b
  some_at (pendings.Writes e a) b = record { hearing = with_asked e (after h w.trace); told = refl; some = b }

-- ---- one step

module _ {before then : Hearing → Type 0} where
  next_heard : (w v : World) (next : Next) → v.trace ≡ w.trace → IsAskedFor next before then → (h : Hearing) → before (after h w.trace) → HasHeardAt (pending_for next) then v h
  next_heard w v (nexts.Finished o) q x h b = inl (rw q (x.heard (after h w.trace) b))
  next_heard w v (nexts.Goes p) q x h b = rw q (x.heard (after h w.trace) b)
  next_heard w v (nexts.Needs p k) q x h b = rw q (x.heard (after h w.trace) b)
  next_heard w v (nexts.Writes e a) q x h b = rw q (x.heard (after h w.trace) b)

  pub does_hears : (a b : Stack) (p : Task) (next : Next) (w v : World) → a.pending ≡ pendings.Does p → b.pending ≡ pending_for next → v.trace ≡ w.trace → IsAskedFor next before then
      → HearsTurn before a w (turns.Running b) then v
  does_hears a b p next w v e g q x = record { heard = λ h y. rw g (next_heard w v next q x h (rw e at y)) }

  -- an entry was written
  pub writes_hears : (a b : Stack) (e : Entry) (x : Continuation) (w v : World) → a.pending ≡ pendings.Writes e x → b.pending ≡ pendings.Does (tasks.Continue x) → Written e w v → IsTold e before then
      → HearsTurn before a w (turns.Running b) then v
  writes_hears a b e x w v p g k l =
      record { heard = λ h y. let z : before (with_asked e (after h w.trace)) = rw p at y in rw (g, k.world) (subst then (told_due h w.trace e) (l.heard (with_asked e (after h w.trace)) z)) }

  -- it had no room
  pub fills_hears : (a b : Stack) (e : Entry) (x : Continuation) (w v : World) → a.pending ≡ pendings.Writes e x → b.pending ≡ pendings.Gives (outcomes.Cut causes.Ticks) → Spent w v → ((h : Hearing) → before h → then h)
      → HearsTurn before a w (turns.Running b) then v
  fills_hears a b e x w v p g k l =
      record { heard = λ h y. let z : before (with_asked e (after h w.trace)) = rw p at y in rw (g, k.world) (by h (l (with_asked e (after h w.trace)) z)) }
    where
      by : (h : Hearing) → then (with_asked e (after h w.trace)) → HasHeardUntil (Unit {0}) then w h
      by h z = by_asked (asked e)
        where
          by_asked : Asked e → HasHeardUntil (Unit {0}) then w h
          by_asked (Asked.never none) = inl (subst then (with_none (after h w.trace) e none) z)
          by_asked (Asked.once one) = inr (tt, record { more = subst then (with_one (after h w.trace) e one) z; full = k.full })

module _ (heard : Hearing → Type 0) where
  -- what a frame does asks for nothing
  quiet_at : (w v : World) (next : Next) → v.trace ≡ w.trace → IsQuiet next → (h : Hearing) → heard (after h w.trace) → HasHeardAt (pending_for next) heard v h
  quiet_at w v (nexts.Finished o) q n h b = inl (rw q b)
  quiet_at w v (nexts.Goes p) q n h b = rw q b
  quiet_at w v (nexts.Needs p k) q n h b = rw q b
  quiet_at w v (nexts.Writes e a) q n h b = rw q (subst heard (sym (with_none (after h w.trace) e n)) b)

  passed : (w v : World) (o : Outcome) (next : Next) → v.trace ≡ w.trace → IsQuiet next → PassesCut o w next v → (h : Hearing) → HasHeardUntil (IsCut o) heard w h → HasHeardAt (pending_for next) heard v h
  passed w v (outcomes.Ends c) next q n p h x = elim x [ inl b ↦ quiet_at w v next q n h b | inr m ↦ absurd m.0 ]
  passed w v (outcomes.Cut cause) next q n p h x = rw (p.0, p.1) x

  pub gives_hears : (a b : Stack) (o : Outcome) (next : Next) (w v : World) → a.pending ≡ pendings.Gives o → b.pending ≡ pending_for next → v.trace ≡ w.trace → IsQuiet next → PassesCut o w next v
      → HearsTurn heard a w (turns.Running b) heard v
  gives_hears a b o next w v e g q n p = record { heard = λ h y. rw g (passed w v o next q n p h (rw e at y)) }

  pub ends_hears : (a : Stack) (o : Outcome) (w : World) → a.pending ≡ pendings.Gives o → HearsTurn heard a w (turns.Finished o) heard w
  ends_hears a o w e = record { heard = λ h y. rw e at y }

  pub hears_here : (a : Stack) (w : World) → HearsTurn heard a w (turns.Running a) heard w
  hears_here a w = record { heard = λ h y. y }

-- ---- steps in a row

pub turns_then : {r s t : Hearing → Type 0} {a b : Stack} {w u v : World} (x : Turn) → HearsTurn r a w (turns.Running b) s u → HearsTurn s b u x t v → HearsTurn r a w x t v
turns_then x l m = record { heard = λ h y. m.heard h (l.heard h y) }

pub run_hears : {s t : Hearing → Type 0} (a : Stack) (p : Task) (o : Outcome) (w v : World) → a.pending ≡ pendings.Does p → HearsTurn s a w (turns.Finished o) t v → HearsOutcome s w o t v
run_hears a p o w v e l = record { heard = λ h b. l.heard h (rw e b) }

-- ---- failures

-- what a step that fails says of the stack
pub failed_at : {MayEnd : Type 0} {before then : Hearing → Type 0} {ended : Ending → Hearing → Type 0} {f : Failure} (d : Pending) (w v : World) → v ≡ w → HasFailed MayEnd before then ended f
    → HasFailedAt MayEnd before d w then ended v f
failed_at {before = before} d w v q (HasFailed.starves g) = HasFailedAt.starves (λ h x. let z = some_at before w h d x in g.heard z.hearing z.some)
failed_at {before = before} d w v q (HasFailed.ends reason e) =
    HasFailedAt.ends reason e.may_end (λ h x. let z = some_at before w h d x in record { hearing = z.hearing; told = rw q z.told; reason = e.heard z.hearing z.some })

-- want of memory after a task's step, and after any that asks for nothing
pub starves_asked : {MayEnd : Type 0} {before then : Hearing → Type 0} {ended : Ending → Hearing → Type 0} (d : Pending) (p : Task) (next : Next) (w v : World) → d ≡ pendings.Does p → IsAskedFor next before then
    → HasFailedAt MayEnd before d w then ended v Memory
starves_asked d p next w v e x = HasFailedAt.starves (λ h y. (heard_for next (after h w.trace), x.heard (after h w.trace) (rw e at y)))

pub starves_quiet : {MayEnd : Type 0} {before : Hearing → Type 0} {ended : Ending → Hearing → Type 0} (d : Pending) (w v : World) → HasFailedAt MayEnd before d w before ended v Memory
starves_quiet {before = before} d w v = HasFailedAt.starves (λ h x. let z = some_at before w h d x in (z.hearing, z.some))

-- and after a turn
pub starves_at : {MayEnd : Type 0} {before then : Hearing → Type 0} {ended : Ending → Hearing → Type 0} (a b : Stack) (w v : World) → HearsTurn before a w (turns.Running b) then v
    → HasFailedAt MayEnd before a.pending w then ended v Memory
starves_at {then = then} a b w v l = HasFailedAt.starves (λ h x. let z = some_at then v h b.pending (l.heard h x) in (z.hearing, z.some))

-- a failure after steps
pub failed_turn : {A B : Type 0} {r s t : Hearing → Type 0} {ended : Ending → Hearing → Type 0} {a b : Stack} {w u v : World} {f : Failure} → HearsTurn r a w (turns.Running b) s u → HasFailedAt B s b.pending u t ended v f → (B → A)
    → HasFailedAt A r a.pending w t ended v f
failed_turn l (HasFailedAt.starves g) n = HasFailedAt.starves (λ h x. g h (l.heard h x))
failed_turn l (HasFailedAt.ends reason may g) n = HasFailedAt.ends reason (n may) (λ h x. g h (l.heard h x))
