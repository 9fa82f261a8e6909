-- Faults of serving as they are written.
use Rattle.std.specs.Prelude.{ℕ, List, codes}
use Rattle.cdi_lines.specs.declared.fault.ServeFault.{ServeFault}
use Rattle.cdi_lines.specs.declared.fault.ServeFault.TheVariants as faults

abbrev pub fault_text : ServeFault → List ℕ
fault_text faults.Read = codes "the input could not be read"
fault_text faults.TooLong = codes "the input is too long"
fault_text faults.Write = codes "the output could not be written"
fault_text faults.Memory = codes "out of memory"
