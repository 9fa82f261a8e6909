use Rattle.cdi_quals.proofs.set.QualSet.new.Goals as goal

pub returns : goal.returns
returns c = rw (c.new.ensures, ← c.in_ok-qualifiers.ensures) c.in_ok-put_in_order.ensures
