-- Ranks are small.
use Rattle.std.proofs.Common.{◌^◌, ◌<◌, ◌≤◌, arith}
use Rattle.cdi_steps.specs.Ranks.{rank, call_rank, continuation_rank, frame_rank, thrown_rank}
use Rattle.cdi_steps.specs.declared.task.Call.{Call}
use Rattle.cdi_steps.specs.declared.task.Call.TheVariants as calls
use Rattle.cdi_steps.specs.declared.task.Continuation.{Continuation}
use Rattle.cdi_steps.specs.declared.task.Continuation.TheVariants as continuations
use Rattle.cdi_steps.specs.declared.task.Task.{Task}
use Rattle.cdi_steps.specs.declared.task.Task.TheVariants as tasks
use Rattle.cdi_steps.specs.declared.task.Frame.{Frame}
use Rattle.cdi_steps.specs.declared.task.Frame.TheVariants as frames

call_below : (c : Call) → call_rank c < 2 ^ 200
call_below (calls.Obtain b) = omega arith
call_below _ = omega arith

continuation_below : (a : Continuation) → continuation_rank a < 2 ^ 200
continuation_below (continuations.Making n b owner) = omega arith
continuation_below _ = omega arith

pub rank_below : (t : Task) → rank t < 2 ^ 200
rank_below (tasks.Start c) = call_below c
rank_below (tasks.Continue a) = continuation_below a
rank_below _ = omega arith

pub frame_below : (k : Frame) → frame_rank k < 2 ^ 200
frame_below (frames.AtEnd role) = omega arith
frame_below _ = omega arith

pub thrown_below : (k : Frame) → thrown_rank k ≤ frame_rank k
thrown_below (frames.Freeing n) = omega arith
thrown_below _ = omega arith

pub thrown_above : (k : Frame) → 0 < thrown_rank k
thrown_above (frames.Freeing n) = omega arith
thrown_above _ = omega arith
