-- What a command passed that isn't refused, and what holds behind one that is.
use Rattle.std.proofs.Common.{◌≡◌, List, ◌∷◌, ◌++◌, length, Bool, true, false, None, refl}
use Rattle.std.specs.Prelude.{if◌then◌else◌}
use Rattle.cdi_base.specs.declared.reply.Refusal.{Refusal}
use Rattle.cdi_base.specs.declared.reply.Refusal.TheVariants as refusals
use Rattle.cdi_contexts.specs.Refusals.{first_that_holds}
use Rattle.cdi_machine.specs.Tables.{Tables}
use Rattle.cdi_machine.specs.World.{at_begin}
use Rattle.cdi_machine.specs.Commands.{Command}
use Rattle.cdi_machine.specs.Container.{State, idle_state, refusal, after_refusal, refused_by_contexts, refused_by_tables}

passed : (halted down busy : Bool) (rs : List (Bool × Refusal)) → first_that_holds ((halted, refusals.Halted) ∷ (down, refusals.Down) ∷ (busy, refusals.Busy) ∷ rs) ≡ None
    → (halted ≡ false) × (first_that_holds rs ≡ None)
passed true down busy rs e = absurd (cc)
passed false true busy rs e = absurd (cc)
passed false false true rs e = absurd (cc)
passed false false false rs e = (refl, e)

module _ (t : Tables) (s : State) (c : Command) (none : refusal t s c ≡ None) where
  pub not_halted : s.halted ≡ false
  not_halted = (passed s.halted s.world.down s.busy (refused_by_contexts s.world.contexts c ++ refused_by_tables t c) none).0

  -- past the refusals that any command may have
  pub past_any : first_that_holds (refused_by_contexts s.world.contexts c ++ refused_by_tables t c) ≡ None
  past_any = (passed s.halted s.world.down s.busy (refused_by_contexts s.world.contexts c ++ refused_by_tables t c) none).1

-- while a command is under way its world stays
pub refused : (P : State → Type 0) (s : State) → P (record s { shown_from = length s.world.trace }) → P (idle_state (at_begin s.world) s.halted) → P (after_refusal s)
refused P s busy idle =
    elim s.busy as (λ b. P (if b then record s { shown_from = length s.world.trace } else idle_state (at_begin s.world) s.halted)) [
      | true ↦ busy
      | false ↦ idle
    ]
