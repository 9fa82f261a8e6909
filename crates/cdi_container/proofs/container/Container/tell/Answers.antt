use Rattle.cdi_container.specs.Standing.{state_of, tables_of}
use Rattle.cdi_container.proofs.Answering.{live_told}
use Rattle.cdi_container.proofs.container.Container.tell.Goals as goal

pub returns-clause-answers : goal.returns-clause-answers
returns-clause-answers g c =
    let s = c.args.self.now in
    rw (c.requires.numbers, c.forget.ensures.state) (live_told (tables_of s) (g.D.Driver.legal s.runtime.driver) (state_of s) c.requires.admitted)
