use Rattle.std.proofs.Common.{◌≡◌, [], drop, filter, fold}
use Rattle.std.specs.List.{enumerate_from}
use Rattle.cdi_resolve.specs.Filters.{is_enabled, enabled_beans}
use Rattle.cdi_resolve.proofs.Pushing.{pushed}
use Rattle.cdi_resolve.proofs.enabled_bean.enabled_of.Given as goal

abbrev pub invariant-loop-index : goal.invariant-loop-index
invariant-loop-index l =
    fold pushed l.enabled (filter (λ p. is_enabled l.flags p.0) (enumerate_from l.index (drop l.index l.beans)))
    ≡ fold pushed [] (enabled_beans l.beans l.flags)
