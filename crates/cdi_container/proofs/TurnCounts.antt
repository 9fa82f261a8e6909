-- A command that was begun ends, whatever its turns are.
use Rattle.std.proofs.Common.{◌≡◌, ◌∙◌, ◌≤◌, ◌+◌, ◌*◌, ℕ, length, sym, subst, arith}
use Rattle.cdi_base.specs.declared.reply.Cause.TheVariants as causes
use Rattle.cdi_frames.specs.Stacks.{program_of}
use Rattle.cdi_frames.proofs.Stacks.{steps_run}
use Rattle.cdi_machine.specs.Commands.{Command}
use Rattle.cdi_machine.specs.Laws.{Goes}
use Rattle.cdi_machine.specs.Runs.{Cut, Legal, Runs}
use Rattle.cdi_machine.specs.Tables.{Tables}
use Rattle.cdi_machine.specs.World.{at_begin}
use Rattle.cdi_machine.proofs.Order.{grows}
use Rattle.cdi_container.specs.Standing.{ContainerParts, SameParts}
use Rattle.cdi_container.specs.States.{ContainerState, after_refusal}
use Rattle.cdi_container.specs.Turns.{EndsByTurns, GoOn, IsLeftOf, stack_of}
use Rattle.cdi_container.specs.declared.left.Left.{Left}

-- nothing is written yet
begun_within : (s t : ContainerState) → t ≡ after_refusal s → length t.world.trace ≤ s.world.ticks
begun_within s t is = subst (λ (u : ContainerState). length u.world.trace ≤ s.world.ticks) (sym is) (omega arith)

-- what is written of a command is within the limit of its container
within_limit : (tables : Tables) (legal : Legal) (s : ContainerState) (c : Command) (left : Left) (t : ContainerState) → IsLeftOf tables legal s c left t
    → length t.world.trace ≤ s.world.ticks
within_limit tables legal s _ _ t (IsLeftOf.runs job {stack = a} told e steps) =
    let run = steps_run tables legal (Unit {0}) (stack_of job) a (at_begin s.world) t.world steps (Cut causes.Memory) t.world (Runs.starves tt) in
    let went : Goes (at_begin s.world) t.world = grows tables legal (Unit {0}) (program_of (stack_of job)) (at_begin s.world) t.world (Cut causes.Memory) run in
    subst (λ n. length t.world.trace ≤ n) went.ticks (went.budget (omega arith))
within_limit tables legal s _ _ t (IsLeftOf.tells is) = begun_within s t is
within_limit tables legal s c _ t (IsLeftOf.starves e is) = begun_within s t is

-- turns that go on have written so many entries each
written_by : (most n : ℕ) (t u : ContainerState) → GoOn most n t u → length u.world.trace ≡ length t.world.trace + n * most
written_by most _ t _ GoOn.none = omega arith
written_by most _ t v (GoOn.once_more {n = n} {u = u} wrote more) =
    let rest = written_by most n u v more in
    let first = wrote.count in
    omega (arith, rest, first)

pub ends_by_turns : (tables : Tables) (legal : Legal) → EndsByTurns tables legal
ends_by_turns tables legal most n s t u c left go is =
    let written = written_by most n t u go in
    let within = within_limit tables legal s c left u is in
    omega (arith, written, within)

-- what stays over one change and over the next stays over both
pub same_then : {Driving : Type 0} {a b c : Legal} {p q r : ContainerParts Driving} → SameParts a b p q → SameParts b c q r → SameParts a c p r
same_then s t = record {
  parts = record {
    names = t.parts.names ∙ s.parts.names;
    tables = t.parts.tables ∙ s.parts.tables;
    legal = record {
      act = λ body entries fields view a h. s.parts.legal.act body entries fields view a (t.parts.legal.act body entries fields view a h);
      pick = λ count entries i h. s.parts.legal.pick count entries i (t.parts.legal.pick count entries i h);
    };
  };
  booted = t.booted ∙ s.booted;
}
