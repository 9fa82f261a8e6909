-- What a stack rests on stays so.
use Rattle.std.proofs.Common.{◌≡◌, List}
use Rattle.cdi_base.specs.declared.entry.Entry.{Entry}
use Rattle.cdi_machine.specs.Tables.{Tables}
use Rattle.cdi_machine.specs.World.{World, with_entry}
use Rattle.cdi_steps.specs.Known.{AllInvoked, KnownContinuation, KnownNext}
use Rattle.cdi_steps.specs.declared.task.Continuation.{Continuation}
use Rattle.cdi_steps.specs.declared.task.Continuation.TheVariants as continuations
use Rattle.cdi_steps.specs.declared.task.Task.TheVariants as tasks
use Rattle.cdi_steps.specs.declared.task.Outcome.{Outcome}
use Rattle.cdi_steps.specs.declared.task.Frame.{Frame}
use Rattle.cdi_steps.specs.declared.task.Next.{Next}
use Rattle.cdi_steps.specs.declared.task.Next.TheVariants as nexts
use Rattle.cdi_frames.specs.declared.stack.Pending.TheVariants as pendings
use Rattle.cdi_frames.specs.declared.stack.Stack.{Stack}
use Rattle.cdi_frames.specs.Stacks.{frames_with, pending_for, KnownFrames, KnownStack}
use Rattle.cdi_frames.specs.Hearing.{Written}

-- after a step
pub known_after : (t : Tables) (ks : List Frame) (next : Next) (b : Stack) (v : World) → b.frames ≡ frames_with ks next → b.pending ≡ pending_for next
    → KnownFrames t ks → KnownNext t v next → AllInvoked t v → KnownStack t v b
known_after t ks (nexts.Finished o) b v e f h n i = record { frames = rw e h; pending = rw f tt; invoked = i }
known_after t ks (nexts.Goes p) b v e f h n i = record { frames = rw e h; pending = rw f n; invoked = i }
known_after t ks (nexts.Needs p k) b v e f h n i = record { frames = rw e (n.1, h); pending = rw f n.0; invoked = i }
known_after t ks (nexts.Writes x a) b v e f h n i = record { frames = rw e h; pending = rw f n; invoked = i }

still_known : (t : Tables) (e : Entry) (a : Continuation) (w : World) → KnownContinuation t w a → KnownContinuation t (with_entry e w) a
still_known t e (continuations.Making n b owner) w h = h
still_known t e (continuations.Starting r) w h = h
still_known t e (continuations.Performing p) w h = h
still_known t e (continuations.Settling n) w h = h
still_known t e (continuations.Discarding n x) w h = h
still_known t e (continuations.Leaving n) w h = h
still_known t e (continuations.Removing n) w h = h
still_known t e (continuations.Freeing n d) w h = h
still_known t e (continuations.Dropping n) w h = h
still_known t e (continuations.Delivering d) w h = h
still_known t e (continuations.Publishing event) w h = h

-- after an entry
pub known_written : (t : Tables) (a b : Stack) (x : Continuation) (e : Entry) (w v : World) → a.pending ≡ pendings.Writes e x → b.frames ≡ a.frames → b.pending ≡ pendings.Does (tasks.Continue x)
    → Written e w v → KnownStack t w a → KnownStack t v b
known_written t a b x e w v p f g k h =
    let here : KnownContinuation t w x = rw p at h.pending in
    record {
      frames = rw f h.frames;
      pending = rw (g, k.world) (still_known t e x w here);
      invoked = rw k.world (record { all = h.invoked.all });
    }

-- and if it had no room
pub known_full : (t : Tables) (a b : Stack) (o : Outcome) (w : World) → b.frames ≡ a.frames → b.pending ≡ pendings.Gives o → KnownStack t w a → KnownStack t w b
known_full t a b o w f g h = record { frames = rw f h.frames; pending = rw g tt; invoked = h.invoked }
