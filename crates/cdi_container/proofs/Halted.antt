-- What has halted refuses all.
use Rattle.std.proofs.Common.{◌≡◌, Option, Some, None, false, refl}
use Rattle.std.specs.Prelude.{is_some}
use Rattle.cdi_base.specs.declared.reply.Cause.{Cause}
use Rattle.cdi_machine.specs.Commands.{Command}
use Rattle.cdi_machine.specs.Container.{refusal}
use Rattle.cdi_machine.specs.Tables.{Tables}
use Rattle.cdi_machine.proofs.Refused.{not_halted}
use Rattle.cdi_container.specs.States.{ContainerState, machine_state}

none_if : (halted : Option Cause) → is_some halted ≡ false → halted ≡ None
none_if None h = refl
none_if (Some cause) h = absurd (cc)

pub works_on : (tables : Tables) (s : ContainerState) (c : Command) → refusal tables (machine_state s) c ≡ None → s.halted ≡ None
works_on tables s c e = none_if s.halted (not_halted tables (machine_state s) c e)
