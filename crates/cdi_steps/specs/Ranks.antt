-- Ranks: each step lowers them, until an entry is due, so that every run ends.
use Rattle.std.specs.Prelude.{ℕ, ◌+◌, ◌-◌, ◌*◌, ◌^◌, length, min, max}
use Rattle.cdi_steps.specs.declared.task.Call.{Call}
use Rattle.cdi_steps.specs.declared.task.Call.TheVariants as calls
use Rattle.cdi_steps.specs.declared.task.CallParameters.{CallParameters}
use Rattle.cdi_steps.specs.declared.task.Completion.TheVariants as completions
use Rattle.cdi_steps.specs.declared.task.Disposal.{Disposal}
use Rattle.cdi_steps.specs.declared.task.Groups.{Groups}
use Rattle.cdi_steps.specs.declared.task.Notification.{Notification}
use Rattle.cdi_steps.specs.declared.task.Outcome.{Outcome}
use Rattle.cdi_steps.specs.declared.task.Parameters.{Parameters}
use Rattle.cdi_steps.specs.declared.task.Outcome.TheVariants as outcomes
use Rattle.cdi_steps.specs.declared.task.Continuation.{Continuation}
use Rattle.cdi_steps.specs.declared.task.Continuation.TheVariants as continuations
use Rattle.cdi_steps.specs.declared.task.Task.{Task}
use Rattle.cdi_steps.specs.declared.task.Task.TheVariants as tasks
use Rattle.cdi_steps.specs.declared.task.Frame.{Frame}
use Rattle.cdi_steps.specs.declared.task.Frame.TheVariants as frames
use Rattle.cdi_steps.specs.declared.task.Next.{Next}
use Rattle.cdi_steps.specs.declared.task.Next.TheVariants as nexts

-- of a creation by the steps that are left, which are fewer than this; between two of them the parameters of one are provided
abbrev pub creation_rank : ℕ → ℕ
creation_rank left = 2 ^ 66 * min left (2 ^ 32) + 2

-- of a step by its parameters without a reference, which are fewer than this
abbrev pub parameters_rank : Parameters → ℕ
parameters_rank p = creation_rank p.left + 2 * min p.remaining (2 ^ 64) + 3

-- of a call by the container by its parameters that have references, which are fewer than this
abbrev pub supply_rank : CallParameters → ℕ
supply_rank p = 2 * (2 ^ 64 - length p.references) + 4

-- of its other parts, in their order
abbrev pub called_rank : ℕ
called_rank = 2 ^ 65 + 5

abbrev pub receiving_rank : ℕ
receiving_rank = called_rank + 1

abbrev pub calling_rank : ℕ
calling_rank = called_rank + 2

-- of the disposers from a place on, which are fewer than this
abbrev pub disposal_rank : Disposal → ℕ
disposal_rank d = 2 ^ 66 * (2 ^ 64 - d.next) + 3

-- of a group by its observers that are left, and of groups, which are fewer than this
abbrev pub notification_rank : Notification → ℕ
notification_rank n = 2 ^ 66 * min (length n.observers) (2 ^ 64) + 3

abbrev pub groups_rank : Groups → ℕ
groups_rank g = 2 ^ 132 * min (length g.left) (2 ^ 64) + 1

abbrev pub call_rank : Call → ℕ
call_rank (calls.Obtain b) = 2
call_rank (calls.Create b owner) = 1
call_rank (calls.Intercept i n) = 1
call_rank (calls.Rest chain) = 2
call_rank (calls.Body r) = 1
call_rank (calls.Acts r) = 1
call_rank (calls.Destroy n) = 1
call_rank (calls.Release n) = 2
call_rank (calls.Fire event) = 1
call_rank (calls.Publish event) = 1
call_rank (calls.Notify n) = notification_rank n.value
call_rank calls.Dismiss = 2
call_rank (calls.Clear c) = 2

abbrev pub continuation_rank : Continuation → ℕ
continuation_rank (continuations.Making n b owner) = creation_rank (2 ^ 32) + 1
continuation_rank (continuations.Settling n) = 1
continuation_rank (continuations.Discarding n x) = 1
continuation_rank (continuations.Dropping n) = 1
continuation_rank (continuations.Starting r) = 2
continuation_rank (continuations.Performing p) = 5
continuation_rank (continuations.Leaving n) = 2 ^ 130 + 4
continuation_rank (continuations.Removing n) = 1
continuation_rank (continuations.Freeing n dependent) = 2
continuation_rank (continuations.Publishing event) = 2 ^ 196 + 2
continuation_rank (continuations.Delivering d) = notification_rank d.value.others + 2 ^ 66

abbrev pub rank : Task → ℕ
rank (tasks.Start c) = call_rank c
rank (tasks.Begin job) = 5
rank (tasks.Using used) = 4
rank (tasks.Through used) = 4
rank (tasks.Creating n b left) = creation_rank left
rank (tasks.Providing p) = parameters_rank p.value
rank (tasks.Calling c) = calling_rank
rank (tasks.Receiving c) = receiving_rank
rank (tasks.Supplying p) = supply_rank p.value
rank (tasks.Continue a) = continuation_rank a

-- what comes after the frame's call, if that gave something
abbrev pub frame_rank : Frame → ℕ
frame_rank (frames.AtEnd role) = 1
frame_rank (frames.Calling b) = 3
frame_rank (frames.Intercepted role) = 1
frame_rank frames.Stopping = 1
frame_rank (frames.Answering r) = 2
frame_rank (frames.Finding r k) = 2
frame_rank (frames.Injecting n b left field) = creation_rank left + 1
frame_rank (frames.Stepping n b left) = creation_rank left + 1
frame_rank (frames.Providing p) = parameters_rank p.value + 1
frame_rank (frames.Constructing n b left) = creation_rank left + 1
frame_rank (frames.Completing n b left) = creation_rank left + 1
frame_rank (frames.Producing n normal) = 3
frame_rank (frames.Discarding n x) = 1
frame_rank (frames.Dropping n) = 1
frame_rank (frames.Received c) = called_rank
frame_rank (frames.Lent c) = called_rank
frame_rank (frames.Supplied p) = supply_rank p.value - 1
frame_rank (frames.CleaningUp n) = 3
frame_rank (frames.Disposing d) = disposal_rank d.value
frame_rank (frames.Releasing n) = 1
frame_rank (frames.Freeing n) = 3
frame_rank frames.Dismissing = 3
frame_rank (frames.Clearing c) = 3
frame_rank (frames.Reaching purpose) = 3
frame_rank (frames.Borrowing purpose) = 3
frame_rank frames.Exiting = 1
frame_rank frames.Using = 3
frame_rank (frames.Returning told) = 1
frame_rank (frames.Observing n) = notification_rank n.value + 1
frame_rank (frames.Grouping g) = groups_rank g.value
frame_rank frames.Initializing = 2
frame_rank frames.Opening = 2
frame_rank frames.Telling = 1
frame_rank frames.ShuttingDown = 2
frame_rank (frames.Finishing closing) = 3
frame_rank (frames.Emptying closing) = 2
frame_rank (frames.Closed after) = 2

-- and if it threw: these go on without a call
abbrev pub thrown_rank : Frame → ℕ
thrown_rank (frames.Freeing n) = 1
thrown_rank (frames.Calling b) = 1
thrown_rank frames.Dismissing = 1
thrown_rank (frames.Clearing c) = 1
thrown_rank k = frame_rank k

abbrev pub back_rank : Frame → Outcome → ℕ
back_rank k (outcomes.Ends (completions.Gave g)) = frame_rank k
back_rank k (outcomes.Ends (completions.Threw x)) = thrown_rank k
back_rank k (outcomes.Cut cause) = 1

-- a destruction and a body that give anything have written an entry
abbrev pub gave_rank : Task → Frame → ℕ
gave_rank (tasks.Start (calls.Destroy n)) k = 1
gave_rank (tasks.Start (calls.Body r)) k = 1
gave_rank _ k = frame_rank k

-- what comes after what a frame waits for, if that writes no entry; an event is an entry itself
abbrev pub awaited_rank : Task → Frame → ℕ
awaited_rank (tasks.Start (calls.Fire event)) k = 1
awaited_rank p k = max (gave_rank p k) (thrown_rank k)

-- what is next: the greatest rank of what is left until an entry is written
abbrev pub weight : Next → ℕ
weight (nexts.Finished o) = 0
weight (nexts.Goes p) = rank p
weight (nexts.Needs p k) = max (rank p) (awaited_rank p k)
weight (nexts.Writes e p) = 0
