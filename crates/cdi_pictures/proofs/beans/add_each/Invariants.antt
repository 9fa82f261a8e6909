use Rattle.std.proofs.Common.{◌≡◌, ◌++◌, string_bytes, take}
use Rattle.cdi_pictures.specs.Beans as spec
use Rattle.cdi_pictures.proofs.beans.add_each.Given as goal

abbrev pub invariant-loop-bean : goal.invariant-loop-bean
invariant-loop-bean l =
    string_bytes l.text ≡ string_bytes l.initial.text ++ spec.beans_text l.names (take l.bean-index l.beans)
