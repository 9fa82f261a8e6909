use Rattle.std.proofs.Common.{[], ◌∙◌, sym, ap}
use Rattle.std.proofs.lemmas.List.{take_all}
use Rattle.cdi_types.proofs.Lines.{inherited}
use Rattle.cdi_types.specs.Members.{parts_of}
use Rattle.cdi_planner.proofs.own_parts.own_members.Goals as goal

pub returns : goal.returns
returns c =
    let class = c.args.class.now in
    c.loop-part.invariant
    ∙ ap (parts_of class) (take_all c.loop-part.part-index c.as_slice-part-items.result.now c.loop-part-test.false ∙ c.as_slice-part-items.ensures)
    ∙ sym (inherited class [])
