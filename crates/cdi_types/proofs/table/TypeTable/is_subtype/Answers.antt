use Rattle.cdi_types.proofs.table.TypeTable.is_subtype.Goals as goal

pub returns : goal.returns
returns c = c.is_subtype_from.ensures (rw c.self.view_is at c.place-place.ensures) (rw c.self.view_is at c.place.ensures)
