use Rattle.std.proofs.Common.{codes}
use Rattle.std.proofs.lemmas.Result.{err_from_is_err_and}
use Rattle.cdi_program.proofs.Told.{front_more, writes_then}
use Rattle.cdi_program.proofs.telling.end_line.Goals as goal

pub returns-in_err-write-clause-bytes : goal.returns-in_err-write-clause-bytes
returns-in_err-write-clause-bytes g c =
    let p = err_from_is_err_and c.from_residual.result c.from_residual.ensures.1 in
    rw p.1 (front_more _ _ c.args.rest.now (codes "\n") (rw c.as_bytes.ensures.value at c.in_err-write.ensures.bytes))

pub returns-clause-bytes : goal.returns-clause-bytes
returns-clause-bytes g c = writes_then _ _ _ c.args.rest.now (codes "\n") _ (rw c.as_bytes.ensures.value at c.in_ok-write.ensures.bytes) c.write_through.ensures.bytes
