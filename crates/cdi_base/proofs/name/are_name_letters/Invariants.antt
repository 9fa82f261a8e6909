use Rattle.std.proofs.Common.{◌≡◌, true, take}
use Rattle.std.specs.List.{list_all}
use Rattle.cdi_base.specs.Name.{is_name_letter}
use Rattle.cdi_base.proofs.name.are_name_letters.Given as goal

abbrev pub invariant-loop-byte : goal.invariant-loop-byte
invariant-loop-byte l = list_all is_name_letter (take l.byte-index l.bytes) ≡ true
