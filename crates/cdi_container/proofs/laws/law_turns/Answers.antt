use Rattle.cdi_container.proofs.Turning.{by_turns}
use Rattle.cdi_container.proofs.TurnCounts.{ends_by_turns}
use Rattle.cdi_container.proofs.laws.law_turns.Goals as goal

pub returns-clause-ends : goal.returns-clause-ends
returns-clause-ends g c = λ tables. ends_by_turns tables (g.E.Driver.legal c.args.wider.now)

pub returns-clause-answers : goal.returns-clause-answers
returns-clause-answers g c = λ within tables. by_turns tables within
