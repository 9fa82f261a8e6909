use Rattle.cdi_bodies.proofs.Events.{exact, reflexive, transitive, of_uses, of_members}
use Rattle.cdi_bodies.proofs.laws.law_same_qualifiers.Goals as goal

pub returns-clause-exact : goal.returns-clause-exact
returns-clause-exact c = exact

pub returns-clause-reflexive : goal.returns-clause-reflexive
returns-clause-reflexive c = reflexive

pub returns-clause-transitive : goal.returns-clause-transitive
returns-clause-transitive c = transitive

pub returns-clause-of_uses : goal.returns-clause-of_uses
returns-clause-of_uses c = of_uses

pub returns-clause-of_members : goal.returns-clause-of_members
returns-clause-of_members c = of_members
