use Rattle.cdi_report.proofs.reviewing.review_bytes.Goals as goal

pub returns-in-Ok : goal.returns-in-Ok
returns-in-Ok c = rw c.in-Ok.ensures.ok c.some_review.ensures
