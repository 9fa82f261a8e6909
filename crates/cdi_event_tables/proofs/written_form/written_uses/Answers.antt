use Rattle.std.proofs.Common.{◌≡◌, List, IfOk, subst}
use Rattle.cdi_base.specs.declared.uses.Use.{Use}
use Rattle.cdi_event_tables.proofs.Written.{written_are}
use Rattle.cdi_event_tables.proofs.written_form.written_uses.Goals as goal

pub returns : goal.returns
returns c =
    let P : List Use → Type 0 = λ uses. IfOk c.written_but_any.result (λ written. written ≡ uses) in
    subst P (written_are c.args.names.now c.args.types.now c.args.uses.now c.in_ok-set.set c.in_ok-set.ensures) (rw c.as_slice.ensures at c.written_but_any.ensures)
