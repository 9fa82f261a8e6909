use Rattle.std.proofs.Common.{take}
use Rattle.std.specs.List.{filter_map}
use Rattle.cdi_beans.specs.Adds.{Adds}
use Rattle.cdi_beans.specs.DisposerMethods.{IsDisposerOf, disposer}
use Rattle.cdi_beans.proofs.disposers.add_disposers.Given as goal

abbrev pub invariant-loop-member : goal.invariant-loop-member
invariant-loop-member l = Adds (IsDisposerOf l.tables.deployment.now l.tables.qualifiers.now) (filter_map (disposer l.class) (take l.member-index l.member-items)) l.initial.disposers l.disposers
