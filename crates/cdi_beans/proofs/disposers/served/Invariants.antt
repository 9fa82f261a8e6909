use Rattle.std.proofs.Common.{take}
use Rattle.cdi_types.specs.Declarations.{declarations_of}
use Rattle.cdi_beans.specs.DisposerMethods.{AreServed}
use Rattle.cdi_beans.proofs.disposers.served.Given as goal

abbrev pub invariant-loop-member : goal.invariant-loop-member
invariant-loop-member l = AreServed (declarations_of l.tables.deployment.now) l.tables.qualifiers.now l.disposer (take l.member-index l.members) l.names
