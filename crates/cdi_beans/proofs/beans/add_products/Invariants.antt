use Rattle.std.proofs.Common.{take}
use Rattle.cdi_beans.specs.Adds.{Adds}
use Rattle.cdi_beans.specs.Beans.{IsBeanOf, products_in}
use Rattle.cdi_beans.proofs.beans.add_products.Given as goal

abbrev pub invariant-loop-member : goal.invariant-loop-member
invariant-loop-member l = Adds (IsBeanOf l.tables.deployment.now l.tables.qualifiers.now) (products_in l.class (take l.member-index l.member-items)) l.initial.beans l.beans
