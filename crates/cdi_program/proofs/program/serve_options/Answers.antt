use Rattle.std.proofs.Common.{inl, inr}
use Rattle.cdi_program.proofs.program.serve_options.Goals as goal

pub returns-in-Explain : goal.returns-in-Explain
returns-in-Explain g c = rw c.in-Explain.is c.explain_word.ensures

pub returns-in-Check : goal.returns-in-Check
returns-in-Check g c =
    elim c.in-Check.is [
      | inl check ↦ rw check (rw check at c.serve_deployment.ensures)
      | inr other ↦ elim other [
        | inl run ↦ rw run (rw run at c.serve_deployment.ensures)
        | inr graph ↦ rw graph (rw graph at c.serve_deployment.ensures)
      ]
    ]
