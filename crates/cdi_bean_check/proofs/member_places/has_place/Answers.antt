use Rattle.cdi_bean_check.proofs.member_places.has_place.Goals as goal

pub returns : goal.returns
returns c = c.contains.ensures
