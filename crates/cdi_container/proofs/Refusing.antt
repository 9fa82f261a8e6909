-- What refuses a command whatever the deployment is, refuses it.
use Rattle.std.proofs.Common.{◌≡◌, ◌++◌, List, [], ◌∷◌, Bool, true, false, Some}
use Rattle.cdi_base.specs.declared.reply.Refusal.{Refusal}
use Rattle.cdi_base.specs.declared.reply.Refusal.TheVariants as refusals
use Rattle.cdi_contexts.specs.Refusals.{first_that_holds}
use Rattle.cdi_machine.specs.Commands.{Command}
use Rattle.cdi_machine.specs.Container.{State, refusal, refused_by_contexts, refused_by_tables}
use Rattle.cdi_machine.specs.Tables.{Tables}
use Rattle.cdi_container.specs.States.{refusal_in_state}

first_of : (xs ys : List (Bool × Refusal)) (r : Refusal) → first_that_holds xs ≡ Some r → first_that_holds (xs ++ ys) ≡ Some r
first_of [] ys r e = absurd (cc)
first_of ((true, why) ∷ more) ys r e = e
first_of ((false, why) ∷ more) ys r e = first_of more ys r e

pub refused_in_state : (tables : Tables) (s : State) (c : Command) (r : Refusal) → refusal_in_state s c ≡ Some r → refusal tables s c ≡ Some r
refused_in_state tables s c r e =
    first_of ((s.halted, refusals.Halted) ∷ (s.world.down, refusals.Down) ∷ (s.busy, refusals.Busy) ∷ refused_by_contexts s.world.contexts c) (refused_by_tables tables c) r e
