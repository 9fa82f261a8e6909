use Rattle.cdi_types.specs.Declarations.{declarations_of}
use Rattle.cdi_name_check.proofs.SoundTypes.{sound_types, memory_alone}
use Rattle.cdi_name_check.proofs.laws.law_types_sound.Goals as goal

pub returns : goal.returns
returns c = record {
  sound = λ d found. sound_types d found;
  memory_alone = λ d found e refused. memory_alone (declarations_of d) e (sound_types d found) refused;
}
