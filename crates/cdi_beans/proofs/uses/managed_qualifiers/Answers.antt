use Rattle.cdi_beans.proofs.Specialized.{all_of}
use Rattle.cdi_beans.proofs.uses.managed_qualifiers.Goals as goal

pub returns-clause-are : goal.returns-clause-are
returns-clause-are c = all_of c.args.beans.now c.args.types.now c.args.class.now c.in_ok-own.own _ _ c.in_ok-own.ensures c.in_ok-specialized.ensures.are c.with.ensures
