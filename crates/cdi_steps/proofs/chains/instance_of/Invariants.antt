use Rattle.std.proofs.Common.{◌≡◌, drop}
use Rattle.cdi_machine.specs.World.{instance_at}
use Rattle.cdi_steps.specs.Chains.{first_in, interceptor_in}
use Rattle.cdi_steps.proofs.chains.instance_of.Given as goal

abbrev pub invariant-loop-number : goal.invariant-loop-number
invariant-loop-number g l =
    interceptor_in (g.W.Contents.world l.world) l.interceptor (instance_at (g.W.Contents.world l.world) l.target)
    ≡ first_in (g.W.Contents.world l.world) l.interceptor (drop l.number-index l.number-items)
