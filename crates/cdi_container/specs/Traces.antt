-- What a command did is told by its trace.
use Rattle.std.specs.Prelude.{◌≡◌}
use Rattle.cdi_base.specs.declared.reply.Reply.{Reply}
use Rattle.cdi_machine.specs.Commands.{Command}
use Rattle.cdi_machine.specs.Runs.{Legal}
use Rattle.cdi_machine.specs.Tables.{Tables}
use Rattle.cdi_container.specs.States.{ContainerState, AnswersCommand}

pub record SameAnswer (r r' : Reply) (t t' : ContainerState) : Type 0 where
  pub reply : r ≡ r'
  pub state : t ≡ t'

-- a command, from one state, has no two answers with the same entries, if there is memory
abbrev pub TraceTells : Tables → Legal → Type 0
TraceTells tables legal =
    (s t t' : ContainerState) (c : Command) (r r' : Reply) → AnswersCommand tables legal ⊥ s c r t
    → AnswersCommand tables legal ⊥ s c r' t' → t.world.trace ≡ t'.world.trace → SameAnswer r r' t t'
