-- What each step of a stack lowers: the entries that are left, and then what waits and what is next, by ranks.
use Rattle.std.specs.Prelude.{ℕ, zero, suc, ◌+◌, ◌*◌, ◌^◌, List, [], ◌∷◌}
use Rattle.cdi_machine.specs.World.{World}
use Rattle.cdi_steps.specs.Ranks.{rank, frame_rank, awaited_rank, back_rank}
use Rattle.cdi_frames.specs.Stacks.{entries_left}
use Rattle.cdi_steps.specs.declared.task.Frame.{Frame}
use Rattle.cdi_frames.specs.declared.stack.Pending.{Pending}
use Rattle.cdi_frames.specs.declared.stack.Pending.TheVariants as pendings
use Rattle.cdi_frames.specs.declared.stack.Stack.{Stack}

-- A rank outweighs any two lower ones. It stays folded: at the greatest rank it is no number that can be written.
unfoldable pub mass : ℕ → ℕ
mass zero = 1
mass (suc n) = mass n + mass n + mass n

-- all that one step adds is less
unfoldable pub greatest_mass : ℕ
greatest_mass = mass (2 ^ 200)

-- the rank at which the innermost frame goes on: behind an entry, all is counted anew
abbrev pub top_rank : Pending → Frame → ℕ
top_rank (pendings.Does t) k = awaited_rank t k
top_rank (pendings.Gives o) k = back_rank k o
top_rank (pendings.Writes e a) k = 1

abbrev pub behind_load : List Frame → ℕ
behind_load [] = 0
behind_load (k ∷ ks) = mass (frame_rank k) + behind_load ks

abbrev pub frames_load : Pending → List Frame → ℕ
frames_load d [] = 0
frames_load d (k ∷ ks) = mass (top_rank d k) + behind_load ks

abbrev pub own_load : Pending → ℕ
own_load (pendings.Does t) = mass (rank t)
own_load (pendings.Gives o) = 0
own_load (pendings.Writes e a) = 1

abbrev pub load : List Frame → Pending → World → ℕ
load ks d w = entries_left w * (4 * greatest_mass) + (frames_load d ks + own_load d)

abbrev pub load_of : Stack → World → ℕ
load_of a w = load a.frames a.pending w
