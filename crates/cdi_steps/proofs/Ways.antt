-- Ways of a program: what a task, or a frame, may come to, with no driver asked; and that a way stays one if more is legal.
use Rattle.std.proofs.Common.{length, ◌≡◌}
use Rattle.cdi_machine.specs.Tables.{Tables}
use Rattle.cdi_machine.specs.World.{World}
use Rattle.cdi_machine.specs.Programs.{Given, Prog, candidates}
use Rattle.cdi_machine.specs.Runs.{Legal}
use Rattle.cdi_machine.specs.Laws.{IsWithin}
use Rattle.cdi_steps.specs.Words.{completion_of}
use Rattle.cdi_steps.specs.Meanings.{first, node, waits}
use Rattle.cdi_steps.specs.Leads.{next_stop, Comes}
use Rattle.cdi_steps.specs.Steps.{nothing_legal}
use Rattle.cdi_steps.specs.declared.task.Completion.{Completion}
use Rattle.cdi_steps.specs.declared.task.Frame.{Frame}
use Rattle.cdi_steps.specs.declared.task.Task.{Task}
use Rattle.cdi_steps.specs.declared.task.Next.{Next}

abbrev pub ComesTo : Tables → Prog Given → World → Next → World → Type 0
ComesTo t p w next v = Comes t nothing_legal p w (node next) v

abbrev pub MovesTo : Tables → Task → World → Next → World → Type 0
MovesTo t p w next v = ComesTo t (first p) w next v

abbrev pub WaitsTo : Tables → Frame → Completion → World → Next → World → Type 0
WaitsTo t k c w next v = ComesTo t (waits k (completion_of c)) w next v

abbrev pub StopsAs : Tables → Prog Given → World → Next → World → Type 0
StopsAs t p w next v = next_stop t p w ≡ (node next, v)

-- a way stays one if more is legal
pub wider_comes : {t : Tables} {small large : Legal} {p q : Prog Given} {w v : World} → IsWithin small large → Comes t small p w q v → Comes t large p w q v
wider_comes i (Comes.same e) = Comes.same e
wider_comes i (Comes.within n e) = Comes.within n e
wider_comes i (Comes.notes e c) = Comes.notes e (wider_comes i c)
wider_comes i (Comes.does {u = u} {b = b} {fields = fields} {view = view} a e l c) = Comes.does a e (i.act b (length u.trace) fields view a l) (wider_comes i c)
wider_comes i (Comes.calls r e d c) = Comes.calls r e d (wider_comes i c)
wider_comes i (Comes.looks c) = Comes.looks (wider_comes i c)
wider_comes i (Comes.awaits e f) = Comes.awaits e (λ r u. wider_comes i (f r u))
wider_comes i (Comes.parts part n e q f) = Comes.parts part n e q (λ r u. wider_comes i (f r u))
wider_comes i (Comes.picks {u = u} {n = n} x e l h c) = Comes.picks x e l (i.pick (candidates n) (length u.trace) x h) (wider_comes i c)

pub nothing_within : (legal : Legal) → IsWithin nothing_legal legal
nothing_within legal = record { act = λ b n f v a h. absurd h; pick = λ n m i h. absurd h }
