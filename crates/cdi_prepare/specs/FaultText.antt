-- The faults of a deployment and of its scripts, as lines.
use Rattle.std.specs.Prelude.{ℕ, List, [], ◌∷◌, ◌++◌, codes}
use Rattle.cdi_deploy.specs.declared.fault.ReadFault.{ReadFault}
use Rattle.cdi_deploy.specs.declared.fault.ReadFault.TheVariants as faults
use Rattle.cdi_script.specs.declared.fault.ScriptFault.{ScriptFault}
use Rattle.cdi_script.specs.declared.fault.ScriptFault.TheVariants as script_faults

-- a text and a line feed
abbrev pub line : List ℕ → List ℕ
line text = text ++ 10 ∷ []

abbrev pub fault_text : ReadFault → List ℕ
fault_text faults.TooLong = codes "TooLong"
fault_text faults.NotJson = codes "NotJson"
fault_text faults.BadNumber = codes "BadNumber"
fault_text (faults.Shape path) = codes "Shape " ++ path
fault_text faults.BadName = codes "BadName"
fault_text faults.TooMany = codes "TooMany"

abbrev pub fault_line : ReadFault → List ℕ
fault_line fault = line (fault_text fault)

abbrev pub script_fault_word : ScriptFault → List ℕ
script_fault_word script_faults.BadStep = codes "BadStep"
script_fault_word script_faults.TooLong = codes "TooLong"
script_fault_word script_faults.Full = codes "Full"

abbrev pub script_line : List ℕ → ScriptFault → List ℕ
script_line name fault = line (codes "script " ++ name ++ codes " " ++ script_fault_word fault)
