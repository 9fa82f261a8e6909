use Rattle.cdi_deploy.proofs.Readable.{readable-of, read-of}
use Rattle.cdi_deploy.proofs.laws.law_read.Goals as goal

pub returns : goal.returns
returns c = λ bytes. (readable-of bytes, read-of bytes)
