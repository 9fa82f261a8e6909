use Rattle.std.proofs.Common.{arith}
use Rattle.cdi_options.proofs.Numbers.{of_read, of_unread}
use Rattle.cdi_options.proofs.options.number_in.Goals as goal

pub returns-in-Ok : goal.returns-in-Ok
returns-in-Ok c =
    rw c.in-Some.is (of_read c.args.usual c.args.most c.in-Some.text.now c.in-Ok.number c.in-Ok.ensures.value.0 (omega arith) (omega arith))

pub returns-in-Err : goal.returns-in-Err
returns-in-Err c =
    rw c.in-Some.is (of_unread c.args.usual c.args.most c.in-Some.text.now c.in-Err.field-0 c.in-Err.ensures.value.0 (omega arith))
