-- An action rests on the parts of its row alone.
use Rattle.std.proofs.Common.{◌≡◌}
use Rattle.cdi_script.specs.declared.part.Parts.{Parts}
use Rattle.cdi_script.specs.declared.step.StepKind.{StepKind}
use Rattle.cdi_script.specs.declared.step.StepKind.TheVariants as kinds
use Rattle.cdi_script.specs.Part.{SameAtAll}
use Rattle.cdi_script.specs.Step.{row_of, action_of}

pub rests : (kind : StepKind) (a b : Parts) → SameAtAll (row_of kind).parts a b → action_of kind a ≡ action_of kind b
rests kinds.Set a b h = cc
rests _ a b h = cc
