-- When a step may be this: it is one of the machine, it lowers a rank, and what rests on something finds it.
use Rattle.std.specs.Prelude.{ℕ, ◌≡◌, ◌<◌}
use Rattle.cdi_machine.specs.Tables.{Tables}
use Rattle.cdi_machine.specs.World.{World}
use Rattle.cdi_machine.specs.Programs.{Given, Prog}
use Rattle.cdi_machine.specs.Runs.{Legal}
use Rattle.cdi_machine.specs.Hearing.{answers_of}
use Rattle.cdi_steps.specs.Words.{completion_of}
use Rattle.cdi_steps.specs.Meanings.{first, node, waits}
use Rattle.cdi_steps.specs.Leads.{next_stop, Comes}
use Rattle.cdi_steps.specs.Ranks.{rank, frame_rank, weight}
use Rattle.cdi_steps.specs.Known.{AllInvoked, KnownNext}
use Rattle.cdi_steps.specs.declared.task.Completion.{Completion}
use Rattle.cdi_steps.specs.declared.task.Frame.{Frame}
use Rattle.cdi_steps.specs.declared.task.Task.{Task}
use Rattle.cdi_steps.specs.declared.task.Task.TheVariants as tasks
use Rattle.cdi_steps.specs.declared.task.Continuation.{Continuation}
use Rattle.cdi_steps.specs.declared.task.Next.{Next}
use Rattle.cdi_steps.specs.declared.task.Next.TheVariants as nexts

-- no body gives anything, and nothing is picked: what a step may be that asks no driver
abbrev pub nothing_legal : Legal
nothing_legal = record { gives = λ b n fields view a. ⊥; picks = λ n m i. ⊥ }

-- a program of this rank may come to what is next, from the one world to the other
pub record IsStep (t : Tables) (legal : Legal) (p : Prog Given) (rank : ℕ)
    (w : World) (next : Next) (v : World) : Type 0 where
  pub leads : Comes t legal p w (node next) v
  pub lowers : weight next < rank
  pub known : AllInvoked t w → KnownNext t v next
  pub invoked : AllInvoked t w → AllInvoked t v

-- no act and no pick is due
abbrev pub IsQuiet : Next → Type 0
IsQuiet (nexts.Writes e a) = answers_of e ≡ 0
IsQuiet _ = Unit {0}

-- the same, and no driver was asked
pub record Steps (t : Tables) (p : Prog Given) (rank : ℕ) (w : World) (next : Next) (v : World)
    : Type 0 where
  pub leads : Comes t nothing_legal p w (node next) v
  pub lowers : weight next < rank
  pub known : AllInvoked t w → KnownNext t v next
  pub invoked : AllInvoked t w → AllInvoked t v
  pub quiet : IsQuiet next

-- the program settles as what is next: by silent steps alone
pub record Settles (t : Tables) (p : Prog Given) (rank : ℕ) (w : World) (next : Next) (v : World)
    : Type 0 where
  pub settles : next_stop t p w ≡ (node next, v)
  pub lowers : weight next < rank
  pub known : AllInvoked t w → KnownNext t v next
  pub invoked : AllInvoked t w → AllInvoked t v
  pub quiet : IsQuiet next

-- what the task does first
abbrev pub Moves : Tables → Task → World → Next → World → Type 0
Moves t p w next v = Steps t (first p) (rank p) w next v

-- what comes after an entry
abbrev pub Follows : Tables → Continuation → World → Next → World → Type 0
Follows t a w next v = Moves t (tasks.Continue a) w next v

-- what the frame does once the call has ended
abbrev pub GoesOn : Tables → Frame → Completion → World → Next → World → Type 0
GoesOn t k c w next v = Steps t (waits k (completion_of c)) (frame_rank k) w next v
