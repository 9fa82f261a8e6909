use Rattle.cdi_program.proofs.program.serve_bytes.Goals as goal

pub returns-in-Check : goal.returns-in-Check
returns-in-Check g c = rw (c.in-Check.is, c.if-options.true) c.check_as_json.ensures

pub returns-in-Graph : goal.returns-in-Graph
returns-in-Graph g c = rw c.in-Graph.is c.draw_bytes.ensures
